-- A release keeps words 0 to 7, the words beyond the total and the length, on any words: each word that it writes is one of a
-- cell that was tested.
use Prim.Native.Nat.{ℕ, zero, suc, ◌≤◌}
use mathlib.Core.Path.{◌≡◌}
use mathlib.Core.Bool.{true}
use mathlib.Core.List.{List}
use mathlib.Core.Logic.{⊎_elim}
use native.Mathlib.Omega.{arith}
use Rattle.cases.proofs.Cases.{split, lt?}
use Rattle.layout.specs.declared.Shape.{Shape}
use Rattle.layout.specs.Layout.{names}
use Rattle.layout.specs.Columns.{word, columns}
use Rattle.lookup.specs.Lookup.{names_kind}
use Rattle.lookup.proofs.FindLaws.{kind_says}
use Rattle.cells.specs.Frame.{Kept}
use Rattle.cells.specs.Mirrors.{take_out_words, give_back_words}
use Rattle.cells.proofs.KeptLaws.{kept_refl, kept_trans, unshare_Kept, take_out_Kept, give_back_Kept}
use Rattle.releases.specs.Releases.{is_last, less_words, chain_from, row_from, at_place, release_from}
use Rattle.releases.proofs.CaseLaws.{entry_place, branch_place, less_shared, less_none, chain_ends, chain_less, chain_last, place_says, release_entry, release_low, release_none, release_less, release_last}

less_Kept : (z : Shape) (a : List ℕ) (r : ℕ) → names z r ≡ true → Kept z a (less_words z a r)
less_Kept z a r n =
    ⊎_elim
    (λ l. rw (less_shared z a r l) (unshare_Kept z a r n))
    (λ l. rw (less_none z a r l) (kept_refl z a))
    (lt? 1 (word z a r 0))

pub chain_Kept : (z : Shape) (n r : ℕ) (a : List ℕ) → Kept z a (chain_from z n r a)
unfolding chain_from
chain_Kept z zero r a = kept_refl z a
chain_Kept z (suc n) r a =
    split (names_kind z 1 r)
    (λ e.
    let named = (kind_says z 1 r e).0 in
    split (is_last z a r)
    (λ t.
    rw (chain_last z r a n e t)
    (kept_trans (take_out_Kept z a r 0 (entry_place z r e))
    (kept_trans (give_back_Kept z (take_out_words z a r 0) r named)
    (chain_Kept z n ((columns z a).kid r 0) (give_back_words z (take_out_words z a r 0) r)))))
    (λ t. rw (chain_less z r a n e t) (less_Kept z a r named)))
    (λ e. rw (chain_ends z r a (suc n) e) (kept_refl z a))

pub row_kept : (release : ℕ → List ℕ → List ℕ) (z : Shape) (r m : ℕ) (a : List ℕ)
    → ((q : ℕ) (b : List ℕ) → Kept z b (release q b)) → names_kind z 0 r ≡ true → m ≤ z.degree
    → Kept z a (row_from release z r m a)
unfolding row_from
row_kept release z r zero a on e l = kept_refl z a
row_kept release z r (suc m) a on e l =
    kept_trans (row_kept release z r m a on e (omega arith))
    (kept_trans (take_out_Kept z _ r m (branch_place z r m e (omega arith))) (on _ _))

pub release_Kept : (z : Shape) (n t r : ℕ) (a : List ℕ) → Kept z a (release_from z n t r a)
release_Kept z zero t r a =
    split (names_kind z 1 r)
    (λ e. rw (release_entry z t r a 0 e) (chain_Kept z z.entries r a))
    (λ e. rw (release_low z t r a e) (kept_refl z a))
release_Kept z (suc n) t r a =
    split (names_kind z 1 r)
    (λ e. rw (release_entry z t r a (suc n) e) (chain_Kept z z.entries r a))
    (λ e.
    split (at_place z (columns z a) t r)
    (λ p.
    let at = (place_says z (columns z a) t r p).0 in
    let named = (kind_says z 0 r at).0 in
    split (is_last z a r)
    (λ f.
    rw (release_last z t r a n e p f)
    (kept_trans (row_kept (release_from z n (suc t)) z r z.degree a (release_Kept z n (suc t)) at (omega arith))
    (give_back_Kept z _ r named)))
    (λ f. rw (release_less z t r a n e p f) (less_Kept z a r named)))
    (λ p. rw (release_none z t r a (suc n) e p) (kept_refl z a)))
