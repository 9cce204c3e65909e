-- The editions around an update and a drop: an update that is done leaves what was held and the new edition, and a drop that is done
-- leaves all but the edition dropped.
use Prim.Native.Nat.{ℕ}
use mathlib.Core.Path.{◌≡◌, sym, ◌∙◌, subst}
use mathlib.Core.List.{List}
use native.Mathlib.Omega.{arith}
use Rattle.trie.specs.Trie.{Map}
use Rattle.layout.specs.declared.Shape.{Shape}
use Rattle.layout.specs.Header.{Header}
use Rattle.layout.specs.Columns.{columns, word_of_slot}
use Rattle.arena.specs.Sound.{Sound}
use Rattle.arena.specs.Holds.{Holds}
use Rattle.arena.proofs.Equivalent.{held_slot_lem}
use Rattle.arena.proofs.Shelved.{slots_in}
use Rattle.arena.proofs.Unique.{Edition-one}
use Rattle.cells.proofs.SlotLaws.{free_slot-Lowest}
use Rattle.replies.specs.Outcomes.{Outcome}
use Rattle.grants.specs.Terms.{Step, Updates}
use Rattle.drops.specs.Terms.{DropsTo}
use Rattle.settled.specs.Cost.{Beside}
use Rattle.std.specs.Prelude.{Result}
use Rattle.replies.specs.declared.Refusal.{Refusal}
use Rattle.replies.specs.declared.Updated.{Updated}
use Rattle.replies.specs.Answers.{took, cell_counts}
use Rattle.replies.specs.declared.CellCounts.{CellCounts}

module _ (a b : List ℕ) (S : Sound a) (z : Shape) (H : Header a z) where
  -- a slot that was held as long as it is, and whose edition is kept, holds no other
  pub held_before : (i : ℕ) → word_of_slot z b i 0 ≡ word_of_slot z a i 0 → ((m : Map ℕ) → Holds z a i m → Holds z b i m)
      → (m : Map ℕ) → Holds z b i m → Holds z a i m
  held_before i same keeps m E =
      let W = held_slot_lem z (columns z a) i (sym same ∙ E.held) (slots_in a S z H i E.slot) in
      subst (λ (n : Map ℕ). Holds z a i n) (Edition-one z (columns z b) i W.map m (keeps W.map W.edition) E) W.edition

  pub update_Beside : (e : ℕ) (step : Shape → Step) {o : Outcome} (r : Result Updated Refusal) → Updates a e step o r b
      → (s x y : ℕ) → r ≡ took s x y → Beside z a b s
  update_Beside e step r U s x y q =
      record {
        away = λ m E. (free_slot-Lowest z a s (U.lowest z H s x y q)).not_held E.held;
        more = U.kept S z H;
        others = λ i m ne. held_before i (U.others S z H s x y q i 0 ne (omega arith)) (U.kept S z H i) m;
      }

  pub drop_Beside : (e : ℕ) {o : Outcome} (r : Result CellCounts Refusal) → DropsTo a e o r b → (x y : ℕ) → r ≡ cell_counts x y → Beside z b a e
  drop_Beside e r D x y q =
      let G = D.gone S z H x y q in
      let away : (m : Map ℕ) → Holds z b e m → ⊥ = λ m E. omega (arith, E.held, G.empty.not_held) in
      record {
        away = away;
        more =
            λ i m E.
            let ne : i ≡ e → ⊥ = λ p. away m (subst (λ (j : ℕ). Holds z b j m) p E) in
            held_before i (G.others i 0 ne (omega arith)) (λ n. D.kept S z H i n ne) m E;
        others = λ i m ne E. D.kept S z H i m ne E;
      }
