-- Rows made one after another, and that they draw the view. Assumes nothing.
use Rattle.std.proofs.Common.{◌≡◌, ℕ, ◌<◌, ◌≤◌, Bool, true, false, not, ◌&&◌, ltb, List, get_or, sym, refl, ap, ◌∙◌, ap₂, ⊎_elim, arith}
use Rattle.std.proofs.lemmas.Bool.{cases_lt, and_parts}
use Rattle.std.proofs.lemmas.List.{get_or_past}
use Rattle.model.specs.Sets.{has}
use Rattle.model.specs.Views.{View, two, is_mark, is_hop}
use Rattle.model.proofs.Digits.{has_zero}
use Rattle.model.proofs.Steps.{two_turned, clash}
use Rattle.grading.specs.Rows.{Collected, Rows, Apart, both_in, unmarked_in, unmarked_from}
use Rattle.grading.specs.Graphs.{Draws}
use Rattle.grading.proofs.Collecting.{collected_at, both_two, mark_by, hop_by}

-- between two standing records, a hop is where neither direction is a step by a mark
unmarked_hop : (w : View) (u v : ℕ) → (two w u v && (not (is_mark w u v) && not (is_mark w v u))) ≡ is_hop w u v
unmarked_hop w u v = rw (mark_by w u v, mark_by w v u, hop_by w u v) (go (two w u v) refl)
  where
    go : (t : Bool) → two w u v ≡ t → (t && (not (t && w.marked u v) && not (two w v u && w.marked v u))) ≡ (t && (not (w.marked u v) && not (w.marked v u)))
    go true e = rw (two_turned w u v e)
    go false e = refl

-- a bit of the hops is one that no row of the marks has
pub apart_made : (standing : ℕ) (marks hops : List ℕ) → Rows (λ v u. unmarked_from standing marks u v) hops → Apart marks hops
apart_made standing marks hops unmarked u v is = ⊎_elim
    (λ (l : v < 64).
    let at_v : (ltb u 64 && unmarked_from standing marks u v) ≡ true = sym (unmarked.each v l u) ∙ is in
    let from : unmarked_from standing marks u v ≡ true = (and_parts (ltb u 64) (unmarked_from standing marks u v) at_v).1 in
    let none = (and_parts (both_in standing u v) (unmarked_in marks u v) from).1 in
    not_true (has (get_or marks v 0) u) (and_parts (not (has (get_or marks v 0) u)) (not (has (get_or marks u 0) v)) none).0)
    (λ (h : 64 ≤ v).
    let past : get_or hops v 0 ≡ 0 = get_or_past hops v 0 (omega (arith, unmarked.long)) in
    absurd (clash (has (get_or hops v 0) u) is (ap (λ (n : ℕ). has n u) past ∙ has_zero u)))
    (cases_lt v 64)
  where
    not_true : (b : Bool) → not b ≡ true → b ≡ false
    not_true false e = refl
    not_true true e = sym e

pub drawn : (w : View) (standing : ℕ) (marks hops : List ℕ) (apart : Apart marks hops) → Collected w.stands 64 standing → Rows (λ v u. is_mark w u v) marks
    → Rows (λ v u. unmarked_from standing marks u v) hops → Draws w (record { standing = standing; marks = marks; hops = hops; apart = apart })
drawn w standing marks hops apart stands marked unmarked = record {
  stands = λ u l. collected_at w.stands standing u stands l;
  marks = mark_at;
  hops = λ u v a b.
      collected_at (λ x. unmarked_from standing marks x v) (get_or hops v 0) u (unmarked.each v b) a
      ∙ ap₂ (λ (p q : Bool). p && q) (both_two w standing u v stands a b) (ap₂ (λ (p q : Bool). not p && not q) (mark_at u v a b) (mark_at v u b a))
      ∙ unmarked_hop w u v;
}
  where
    mark_at : (u v : ℕ) → u < 64 → v < 64 → has (get_or marks v 0) u ≡ is_mark w u v
    mark_at u v a b = collected_at (λ x. is_mark w x v) (get_or marks v 0) u (marked.each v b) a
