-- The writers of chains keep words 0 to 7, the words beyond the total and the length, on any words: each word that they write is
-- one of a cell that was tested or taken.
use Prim.Native.Nat.{ℕ, zero, suc}
use mathlib.Core.Path.{◌≡◌, refl}
use mathlib.Core.Bool.{true}
use mathlib.Core.List.{List}
use native.Mathlib.Omega.{arith}
use Rattle.cases.proofs.Cases.{split}
use Rattle.trie.specs.declared.Entry.{Entry}
use Rattle.layout.specs.declared.Shape.{Shape}
use Rattle.layout.specs.Layout.{Lent}
use Rattle.lookup.specs.Lookup.{names_kind}
use Rattle.cells.specs.Frame.{Kept}
use Rattle.cells.specs.Mirrors.{Wrote, taken, taken_of, share_words, put_in_words}
use Rattle.cells.proofs.KeptLaws.{kept_refl, kept_trans, Kept-Lent, share_Kept, take_Kept as cell-kept, fill_entry_Kept, put_in_Kept}
use Rattle.cells.proofs.TakeLaws.{taken_cell}
use Rattle.cells.proofs.Made.{then_Kept}
use Rattle.chains.specs.Chains.{entry_made, entry_copied, copied_on, closed, front_pushed, taken_from}
use Rattle.chains.proofs.StepLaws.{entry_refs, new_names, on_names, standing}

pub new_Kept : (z : Shape) (a : List ℕ) (l : ℕ) (e : Entry) → Kept z a (entry_made z a l e).words
unfolding entry_made
new_Kept z a l e =
    then_Kept (taken z a 1) _ (cell-kept z a 1 (omega arith))
    (λ ne.
    let t = taken_cell z a 1 (taken_of z a 1) refl ne in
    fill_entry_Kept z _ (taken_of z a 1) l 0 e t.0 t.1)

-- the entry c gets the copy behind it
pub on_Kept : (z : Shape) (n c r : ℕ) (a : List ℕ) → Lent z a → names_kind z 1 c ≡ true → Kept z a (copied_on z n c r a).words
unfolding copied_on
on_Kept z zero c r a l e = kept_refl z a
on_Kept z (suc n) c r a l e =
    let d : ℕ = (entry_copied z a r).at in
    let w : List ℕ = (entry_copied z a r).words in
    let copied : Kept z a w = new_Kept z a _ _ in
    let put : Kept z w (put_in_words z w c 0 d) = put_in_Kept z w c 0 d (entry_refs c l e) in
    split (names_kind z 1 r)
    (λ y.
    rw y
    (then_Kept (entry_copied z a r) _ copied
    (λ ne.
    kept_trans put (on_Kept z n d _ _ (Kept-Lent (kept_trans copied put) l) (new_names z a _ _ d w refl ne)))))
    (λ f. rw f (kept_refl z a))

-- a new entry, and what stands behind it
stand_Kept : {z : Shape} {a : List ℕ} (n r q : ℕ) (s : Wrote) → Lent z a → Kept z a s.words
    → ((s.at ≡ 0 → ⊥) → names_kind z 1 s.at ≡ true) → Kept z a (standing z n r q s).words
unfolding closed
stand_Kept {z} n r q s lent first names =
    then_Kept s _ first
    (λ new.
    let c = s.at in
    let w = s.words in
    then_Kept (copied_on z n c r w) _ (on_Kept z n c r w (Kept-Lent first lent) (names new))
    (λ some.
    let d = (copied_on z n c r w).at in
    let v = (copied_on z n c r w).words in
    kept_trans (share_Kept z v q)
    (put_in_Kept z (share_words z v q) d 0 q (entry_refs d lent (on_names z n c r w d v (names new) refl some)))))

-- PUSH
pub push_kept : {z : Shape} {a : List ℕ} (l : ℕ) (e : Entry) (n r q : ℕ) → Lent z a → Kept z a (front_pushed z a l e n r q).words
unfolding front_pushed
push_kept {z} {a} l e n r q lent = stand_Kept n r q (entry_made z a l e) lent (new_Kept z a l e) (new_names z a l e _ _ refl)

-- TAKE FROM
pub take_Kept : {z : Shape} {a : List ℕ} (n r q : ℕ) → Lent z a → Kept z a (taken_from z n r q a).words
unfolding taken_from
take_Kept {z} {a} zero r q lent = share_Kept z a q
take_Kept {z} {a} (suc n) r q lent =
    split (names_kind z 1 r)
    (λ y. rw y (stand_Kept n _ q (entry_copied z a r) lent (new_Kept z a _ _) (new_names z a _ _ _ _ refl)))
    (λ f. rw f (kept_refl z a))
