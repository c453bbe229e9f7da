-- A whole script, put together from its lines, their calls and the answers. Assumes nothing.
use Rattle.std.proofs.Common.{◌≡◌, ℕ, ◌<◌, ◌≤◌, List, [], ◌∷◌, ◌++◌, length, take, drop, codes, Ok, Err, Result, refl, sym, ap, ◌∙◌, append-nil, suc, min, OnOk, arith}
use Rattle.std.specs.List.{flat_map}
use Rattle.std.proofs.lemmas.List.{append_assoc, take_at, take_min, take-append-drop, length-take}
use Rattle.std.proofs.lemmas.Grind.{flat_map-append}
use Rattle.std.specs.Result.{is_ok}
use Rattle.std.specs.Bool.{if◌then◌else◌}
use Rattle.sheet.specs.Views.{meaning_of}
use Rattle.sheet.specs.declared.meaning.Sheet.{Ghosts}
use Rattle.layers.specs.FolderCalls.{account_of}
use Rattle.archive.specs.declared.desk.Desk.{Desk}
use Rattle.model.specs.declared.decline.Decline.{Decline}
use Rattle.layers.specs.Folders.{Account, opened}
use Rattle.archive.specs.declared.call.Call.{Call}
use Rattle.archive.specs.declared.answer.Answer.{Answer}
use Rattle.archive.specs.declared.answer.Answer.TheVariants.{Taken}
use Rattle.archive.specs.Right.{Right}
use Rattle.archive.specs.Following.{Answered, Replayed}
use Rattle.archive.specs.Histories.{History, begun}
use Rattle.archive.proofs.Histories.{one_more}
use Rattle.archive.proofs.Replaying.{replayed}
use Rattle.script.specs.Cuts.{FirstLine, bare_of, LineCall}
use Rattle.script.specs.Text.{line_of, Printed}
use Rattle.script.specs.Judged.{Opened}
use Rattle.script.specs.Steps.{Stepped, Step, Lengthened, Left}
use Rattle.script.proofs.FirstLine.{GoesOn, goes_on, all_spoken}

-- a right answer is printed wherever there is room
pub stepped : (a b : Account) (line before after : List ℕ) (c : Call) (x : Answer) (r : Result ℕ Decline)
    → 2048 ≤ length before → LineCall (bare_of line) c → Answered a c b x → Printed x before after r → Step a b line before after r
stepped a b line before after c x (Ok n) room spoken taken put = record { call = c; answer = x; spoken = spoken; taken = taken; put = put }
stepped a b line before after c x (Err d) room spoken taken q = absurd (omega (arith, q.few))

-- what was put comes to the end
pub lengthened_by : {E : Type 0} (a b : Account) (line before after out more : List ℕ) (n : ℕ) (r : Result (Unit {0}) E)
    → Stepped a b line before after n → more ≡ (if (is_ok r) then (out ++ take n after) else out) → OnOk r (Lengthened a b line out more)
lengthened_by a b line before after out more n (Ok y) s e = record {
  call = s.call;
  answer = s.answer;
  spoken = s.spoken;
  taken = s.taken;
  put = e ∙ ap (λ (xs : List ℕ). out ++ xs) (ap (take n) s.put.bytes ∙ take_at (line_of s.answer) (drop n before) n (sym s.put.long));
}
lengthened_by a b line before after out more n (Err y) s e = tt

-- bytes are their first line and what comes after it
pub first_and_rest : (bs line : List ℕ) → FirstLine bs line → bs ≡ line ++ drop (length line) bs
first_and_rest bs line f =
    let n : length line ≡ min (suc f.k) (length bs) = ap length f.is ∙ length-take (suc f.k) bs in
    let front : take (length line) bs ≡ line = ap (λ (i : ℕ). take i bs) n ∙ take_min (suc f.k) bs ∙ sym f.is in
    sym (take-append-drop (length line) bs) ∙ ap (λ (xs : List ℕ). xs ++ drop (length line) bs) front

-- a first line has a byte
pub first_some : (bs line : List ℕ) → FirstLine bs line → (0 < length line) × (length line ≤ length bs)
first_some bs line f =
    let n : length line ≡ min (suc f.k) (length bs) = ap length f.is ∙ length-take (suc f.k) bs in
    (omega (arith, f.some), omega arith)

-- the lines so far: their calls, and a history of them with its answers
pub record Heard (a : Account) (script rest : List ℕ) (b : Account) : Type 0 where
  pub calls : List Call
  pub answers : List Answer
  pub spoken : GoesOn script calls rest
  pub history : History Right a calls answers b

abbrev pub heard_first : (a : Account) (script : List ℕ) → Heard a script script a
heard_first a script = record { calls = []; answers = []; spoken = λ cs said. said; history = begun }

abbrev pub heard_more : {a b d : Account} {script rest : List ℕ} (line : List ℕ) (c : Call) (x : Answer)
    → Heard a script rest b → FirstLine rest line → LineCall (bare_of line) c → Answered b c d x → Heard a script (drop (length line) rest) d
heard_more {script = script} {rest = rest} line c x t first call taken = record {
  calls = t.calls ++ (c ∷ []);
  answers = t.answers ++ (x ∷ []);
  spoken = goes_on script rest line (drop (length line) rest) t.calls (t.calls ++ (c ∷ [])) c t.spoken first (first_and_rest rest line first) call refl;
  history = one_more Right c x t.history taken;
}

-- after all lines: the history is a replay of their calls
module _ {S : Type 0} (s : Ghosts S) (below : S) (script rest : List ℕ) (desk : Desk S s) (t : Heard (opened (meaning_of s below)) script rest (account_of s desk.folder)) where
  heard_all : Replayed s below t.calls desk.folder t.answers
  heard_all = replayed s below desk t.calls t.answers t.history

  pub left_all : length rest ≡ 0 → Left (meaning_of s below) script (account_of s desk.folder)
  left_all none = record { calls = t.calls; spoken = all_spoken script rest t.calls t.spoken none; account = heard_all.account; questions = heard_all.questions }

  pub opened_all : (out : List ℕ) → length rest ≡ 0 → out ≡ codes "ok\n" ++ flat_map line_of t.answers → Opened (meaning_of s below) script out
  opened_all out none printed = record {
    calls = t.calls;
    answers = t.answers;
    spoken = all_spoken script rest t.calls t.spoken none;
    right = heard_all.all_right;
    lessens = heard_all.lessens;
    printed = printed;
  }

-- the lines so far, and the output: the line of the opening, and then those of the answers
pub record Written (a : Account) (script rest : List ℕ) (b : Account) (out : List ℕ) : Type 0 where
  pub heard : Heard a script rest b
  pub printed : out ≡ codes "ok\n" ++ flat_map line_of heard.answers

pub written_first : (a : Account) (script out : List ℕ) → out ≡ line_of Taken → Written a script script a out
written_first a script out is = record { heard = heard_first a script; printed = is }

pub written_more : {a b d : Account} {script rest out more : List ℕ} (line : List ℕ)
    → Written a script rest b out → FirstLine rest line → Lengthened b d line out more → Written a script (drop (length line) rest) d more
written_more line t first one = record {
  heard = heard_more line one.call one.answer t.heard first one.spoken one.taken;
  printed = one.put ∙ ap (λ (xs : List ℕ). xs ++ line_of one.answer) t.printed ∙ append_assoc (codes "ok\n") (flat_map line_of t.heard.answers) (line_of one.answer)
      ∙ ap (λ (xs : List ℕ). codes "ok\n" ++ xs) (ap (λ (xs : List ℕ). flat_map line_of t.heard.answers ++ xs) (sym (append-nil (line_of one.answer))) ∙ sym (flat_map-append line_of t.heard.answers (one.answer ∷ [])));
}
