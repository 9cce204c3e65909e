-- The children of a branch with one taken out, as a row and as a bitmap. The place of a segment is how many children stand at
-- lower ones; those behind it go down by one place.
use Rattle.std.proofs.Common.{◌≡◌, ℕ, suc, ◌+◌, ◌-◌, ◌*◌, ◌^◌, ◌<◌, sym, ◌∙◌, ⊎_elim, arith}
use mathlib.Core.Path.{fun_ext}
use Rattle.cases.proofs.Cases.{lt?, Tri, is_less, is_equal, is_more, tri}
use Rattle.sparse_array.specs.Bitmap.{bit, below}
use Rattle.layout.specs.Columns.{State}
use Rattle.trie.specs.Trie.{Node, Kids, none, kid, found, child, take_out}
use Rattle.trie.specs.Canon.{Above, Asc}
use Rattle.trie.proofs.KidsLaws.{found-missing, child_miss, child-Above, take_hit, take_miss, Above-Asc}
use Rattle.arena.specs.Shows.{bitmap, behind, Shows, ShowsRow}
use Rattle.lookup.proofs.RowLaws.{bit_found}
use Rattle.grafts.proofs.RowLaws.{before, before_here, before_more, before_is}
use Rattle.prunes.specs.Prunes.{row_out}
pub use Rattle.prunes.proofs.OutLaws.{out_before, out_behind}

-- A ROW WITH ONE WORD TAKEN OUT
-- without its first word
out_first : (f : ℕ → ℕ) → row_out f 0 ≡ behind f
out_first f = fun_ext (λ k. out_behind f 0 k (omega arith))

behind_out : (f : ℕ → ℕ) (p : ℕ) → behind (row_out f (suc p)) ≡ row_out (behind f) p
behind_out f p =
    fun_ext
    (λ j.
    ⊎_elim
    (λ l. out_before f (suc p) (suc j) (omega arith) ∙ sym (out_before (behind f) p j l))
    (λ l. out_behind f (suc p) (suc j) (omega arith) ∙ sym (out_behind (behind f) p j l))
    (lt? j p))

-- THE CHILD IS THE FIRST, OR STANDS BEHIND IT
module _ {X : Type 0} (s i : ℕ) (m n : Node X) (ks : Kids X) (a : Above i ks) (q : child s (kid i n ks) ≡ found m) where
  not_before : s < i → ⊥
  not_before l =
      found-missing m (sym (child-Above s i ks a (omega arith)) ∙ sym (child_miss s i n ks (λ e. omega arith)) ∙ q)

  later_found : i < s → child s ks ≡ found m
  later_found l = sym (child_miss s i n ks (λ e. omega arith)) ∙ q

-- THE BITMAP WITH ONE CHILD TAKEN OUT
module _ {X : Type 0} where
  bits_out : (s : ℕ) (ks : Kids X) (m : Node X) → Asc ks → child s ks ≡ found m → bitmap (take_out s ks) + 2 ^ s ≡ bitmap ks
  unfolding Asc bitmap
  bits_out s none m a q = absurd (found-missing m (unfold child in q))
  bits_out s (kid i n ks) m a q = by (bits_out s ks m (Above-Asc i ks a)) (tri s i)
    where
      by : (child s ks ≡ found m → bitmap (take_out s ks) + 2 ^ s ≡ bitmap ks) → Tri s i
          → bitmap (take_out s (kid i n ks)) + 2 ^ s ≡ 2 ^ i + bitmap ks
      by ih (is_less l) = absurd (not_before s i m n ks a q l)
      by ih (is_equal e) = rw (take_hit s i n ks (sym e), e) (omega arith)
      by ih (is_more l) = rw (take_miss s i n ks (λ e. omega arith)) (omega (arith, ih (later_found s i m n ks a q l)))

  pub bitmap_out : (s : ℕ) (ks : Kids X) (m : Node X) → Asc ks → child s ks ≡ found m
      → bitmap (take_out s ks) ≡ bitmap ks - bit (bitmap ks) s * 2 ^ s
  bitmap_out s ks m a q = rw (bit_found ks a s m q) (omega (arith, bits_out s ks m a q))

-- THE ROW WITH ONE CHILD TAKEN OUT
module _ (σ : State) where
  out_step : (s i : ℕ) (n m : Node ℕ) (ks : Kids ℕ) (t : ℕ) (f : ℕ → ℕ) → Above i ks → child s (kid i n ks) ≡ found m
      → ShowsRow σ (kid i n ks) t f
      → (child s ks ≡ found m → ShowsRow σ (take_out s ks) t (row_out (behind f) (before s ks))) → Tri s i
      → ShowsRow σ (take_out s (kid i n ks)) t (row_out f (before s (kid i n ks)))
  unfolding Shows
  out_step s i n m ks t f a q r ih (is_less l) = absurd (not_before s i m n ks a q l)
  out_step s i n m ks t f a q r ih (is_equal e) =
      rw (take_hit s i n ks (sym e), before_here s i n ks (omega arith), out_first f) r.1
  out_step s i n m ks t f a q r ih (is_more l) =
      rw (take_miss s i n ks (λ e. omega arith), before_more s i n ks l) (
        rw (out_before f (suc (before s ks)) 0 (omega arith)) r.0,
        rw (behind_out f (before s ks)) (ih (later_found s i m n ks a q l)),
      )

  out_of_row : (s : ℕ) (ks : Kids ℕ) (t : ℕ) (f : ℕ → ℕ) (m : Node ℕ) → Asc ks → child s ks ≡ found m → ShowsRow σ ks t f
      → ShowsRow σ (take_out s ks) t (row_out f (before s ks))
  unfolding Asc Shows
  out_of_row s none t f m a q r = absurd (found-missing m (unfold child in q))
  out_of_row s (kid i n ks) t f m a q r =
      out_step s i n m ks t f a q r (λ later. out_of_row s ks t (behind f) m (Above-Asc i ks a) later r.1) (tri s i)

  pub row_out_lem : (s : ℕ) (ks : Kids ℕ) (t : ℕ) (f : ℕ → ℕ) (m : Node ℕ) → Asc ks → child s ks ≡ found m → ShowsRow σ ks t f
      → ShowsRow σ (take_out s ks) t (row_out f (below (bitmap ks) s))
  row_out_lem s ks t f m a q r = rw (before_is s ks a) (out_of_row s ks t f m a q r)
