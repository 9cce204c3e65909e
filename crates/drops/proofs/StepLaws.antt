-- The steps of drop, as the definitions have them.
use Rattle.std.proofs.Common.{◌≡◌, ℕ, ◌-◌, List, ap, ◌∙◌, ap₂, arith}
use Rattle.layout.specs.declared.Shape.{Shape}
use Rattle.layout.specs.Columns.{word_of_slot, set_slot_words}
use Rattle.releases.specs.Releases.{release_from}
use Rattle.drops.specs.Calls.{free_words}

pub free_is : (z : Shape) (a : List ℕ) (e root : ℕ) (w v : List ℕ) → root ≡ word_of_slot z a e 1 → w ≡ set_slot_words z a e 0 0 0
    → v ≡ release_from z z.depths (z.depths - z.depths) root w → v ≡ free_words z a e
unfolding free_words
free_is z a e root w v er ew ev =
    let q : z.depths - z.depths ≡ 0 = omega arith in
    ev
    ∙ ap (λ (t : ℕ). release_from z z.depths t root w) q
    ∙ ap₂ (λ (r : ℕ) (x : List ℕ). release_from z z.depths 0 r x) er ew
