-- Steps counted on a graph are the steps of every view that it draws. Assumes nothing.
use Rattle.std.proofs.Common.{◌≡◌, ℕ, suc, ◌+◌, ◌%◌, ◌<◌, ◌≤◌, Bool, true, false, List, length, get_or, sym, ap, ◌∙◌, ap₂, mod-lt, add-one, arith}
use Rattle.model.specs.Views.{View, is_mark, is_hop}
use Rattle.model.specs.Rings.{sum_to, bit, round}
use Rattle.model.proofs.Sums.{sum_none, sum_more}
use Rattle.model.proofs.Rounds.{round_low}
use Rattle.grading.specs.declared.graph.Graph.{Graph}
use Rattle.grading.specs.declared.count.Tally.{Tally}
use Rattle.grading.specs.Graphs.{graph_marks, graph_hops, Draws}
use Rattle.grading.specs.Counts.{Counted}

-- a step adds one at most
pub at_most_one : (b : Bool) (x y n : ℕ) → y ≡ x + bit b → x ≤ n → y ≤ n + 1
at_most_one true x y n e l = omega arith
at_most_one false x y n e l = omega arith

pub counted_none : (w : View) (xs : List ℕ) → Counted w xs 0 (record { marks = 0; hops = 0 })
counted_none w xs = record { marks = sym (sum_none _); hops = sym (sum_none _) }

-- the sum so far and the test at the place i, where the row's bit is what the view says
more : (test : ℕ → ℕ → Bool) (row : ℕ → ℕ → Bool) (xs : List ℕ) (i x y : ℕ) → i < length xs
    → row (get_or xs i 0) (get_or xs ((i + 1) % length xs) 0) ≡ test (get_or xs i 0) (get_or xs ((i + 1) % length xs) 0)
    → x ≡ sum_to (λ j. bit (test (round xs j) (round xs (suc j)))) i → y ≡ x + bit (row (get_or xs i 0) (get_or xs ((i + 1) % length xs) 0))
    → y ≡ sum_to (λ j. bit (test (round xs j) (round xs (suc j)))) (i + 1)
more test row xs i x y l same e f =
    let next : get_or xs ((i + 1) % length xs) 0 ≡ round xs (suc i) = ap (λ (p : ℕ). get_or xs (p % length xs) 0) (add-one i) in
    f ∙ ap₂ (λ (a b : ℕ). a + b) e (ap bit (same ∙ ap₂ test (sym (round_low xs i l)) next)) ∙ sym (sum_more (λ j. bit (test (round xs j) (round xs (suc j)))) i)

pub counted_more : (w : View) (g : Graph) (xs : List ℕ) (i : ℕ) (t all : Tally) → Draws w g → i < length xs → ((j : ℕ) → j < length xs → get_or xs j 0 < 64)
    → all.marks ≡ t.marks + bit (graph_marks g (get_or xs i 0) (get_or xs ((i + 1) % length xs) 0))
    → all.hops ≡ t.hops + bit (graph_hops g (get_or xs i 0) (get_or xs ((i + 1) % length xs) 0))
    → Counted w xs i t → Counted w xs (i + 1) all
counted_more w g xs i t all draws l low em eh c =
    let here : get_or xs i 0 < 64 = low i l in
    let next : get_or xs ((i + 1) % length xs) 0 < 64 = low ((i + 1) % length xs) (mod-lt (i + 1) (omega arith)) in
    record {
      marks = more (is_mark w) (graph_marks g) xs i t.marks all.marks l (draws.marks (get_or xs i 0) (get_or xs ((i + 1) % length xs) 0) here next) c.marks em;
      hops = more (is_hop w) (graph_hops g) xs i t.hops all.hops l (draws.hops (get_or xs i 0) (get_or xs ((i + 1) % length xs) 0) here next) c.hops eh;
    }
