-- No writer touches words 0 to 7 or a word beyond the total, since the words of cells and slots and the words 8 to 11 lie
-- between them. So an arena keeps its length, its header and its shape whatever is written.
use Prim.Native.Nat.{ℕ, zero, suc, ◌+◌, ◌-◌, ◌^◌, ◌≤◌, ◌<◌}
use mathlib.Core.Path.{◌≡◌, refl, ◌∙◌}
use mathlib.Core.Bool.{Bool, true, false, cond}
use mathlib.Core.List.{List}
use native.Mathlib.Omega.{arith}
use lib.Dec.{eqb, ltb}
use lib.ListN.{length, set, length-set}
use lib.Seq.{get_or-set_other}
use borrow.Author.Tests.{eqb-false}
use Rattle.trie.specs.declared.Entry.{Entry}
use Rattle.layout.specs.declared.Shape.{Shape}
use Rattle.layout.specs.Layout.{kind_of, header_words, total, names, has, Lent}
use Rattle.layout.specs.Header.{Header}
use Rattle.layout.specs.Columns.{word, by_kind, refs, word_set, slot_word_set, set_slot_words}
use Rattle.layout.proofs.OffsetLaws.{word_inside, slot_inside}
use Rattle.layout.proofs.ColumnLaws.{has_low, has_kid, has_entry, has_branch}
use Rattle.cells.specs.Mirrors.{share_words, unshare_words, takeable, cell_taken, take_words, fill_entry_words, row_words, fill_branch_words, put_in_words, take_out_words, blank_words, give_back_words}
use Rattle.cells.specs.Frame.{Kept}
use Rattle.cells.proofs.TakeLaws.{takeable_says}

-- THE FRAME
pub kept_refl : (z : Shape) (a : List ℕ) → Kept z a a
kept_refl z a = record { same_length = refl; same_header = λ i l. refl; same_beyond = λ i l. refl }

pub kept_trans : {z : Shape} {a b c : List ℕ} → Kept z a b → Kept z b c → Kept z a c
kept_trans P Q =
    record {
      same_length = Q.same_length ∙ P.same_length;
      same_header = λ i l. Q.same_header i l ∙ P.same_header i l;
      same_beyond = λ i l. Q.same_beyond i l ∙ P.same_beyond i l;
    }

pub Kept-Lent : {z : Shape} {a b : List ℕ} → Kept z a b → Lent z a → Lent z b
Kept-Lent K l = record { allowed = l.allowed; long = omega (arith, K.same_length, l.long) }

pub lent_same : {z : Shape} {a b : List ℕ} → length b ≡ length a → Lent z a → Lent z b
lent_same e l = record { allowed = l.allowed; long = omega (arith, e, l.long) }

pub Kept-Header : {z : Shape} {a b : List ℕ} → Kept z a b → Header a z → Header b z
Kept-Header K h =
    record {
      allowed = h.allowed;
      three = h.three;
      word_0 = K.same_header 0 (omega arith) ∙ h.word_0;
      word_1 = K.same_header 1 (omega arith) ∙ h.word_1;
      word_2 = K.same_header 2 (omega arith) ∙ h.word_2;
      word_3 = K.same_header 3 (omega arith) ∙ h.word_3;
      word_4 = K.same_header 4 (omega arith) ∙ h.word_4;
      word_5 = K.same_header 5 (omega arith) ∙ h.word_5;
      word_6 = K.same_header 6 (omega arith) ∙ h.word_6;
      word_7 = K.same_header 7 (omega arith) ∙ h.word_7;
      long = omega (arith, K.same_length, h.long);
    }

-- STORES. None needs the slice to be long: a store beyond its end does nothing.
store_kept : (z : Shape) (a : List ℕ) (i v : ℕ) → 8 ≤ i → i < total z → Kept z a (set a i v)
store_kept z a i v low high =
    record {
      same_length = length-set a i v;
      same_header = λ j l. get_or-set_other a i j v 0 (λ e. omega arith);
      same_beyond = λ j l. get_or-set_other a i j v 0 (λ e. omega arith);
    }

pub word_kept : (z : Shape) (a : List ℕ) (r p v : ℕ) → has z r p ≡ true → Kept z a (word_set z a r p v)
word_kept z a r p v h =
    store_kept z a _ v (omega (arith, word_inside z r p h)) (omega (arith, word_inside z r p h))

pub slot_kept : (z : Shape) (a : List ℕ) (s p v : ℕ) → s < z.slots → p < z.stride → Kept z a (slot_word_set z a s p v)
slot_kept z a s p v ls lp =
    store_kept z a _ v (omega (arith, slot_inside z s p ls lp)) (omega (arith, slot_inside z s p ls lp))

pub kind_Kept : (z : Shape) (a : List ℕ) (i v : ℕ) → 8 ≤ i → i < header_words → Kept z a (set a i v)
kind_Kept z a i v low high = store_kept z a i v low (omega arith)

-- WRITERS
chosen : {z : Shape} {a b c : List ℕ} (t : Bool) → (t ≡ true → Kept z a b) → (t ≡ false → Kept z a c) → Kept z a (cond t b c)
chosen true f g = f refl
chosen false f g = g refl

pub share_Kept : (z : Shape) (a : List ℕ) (r : ℕ) → Kept z a (share_words z a r)
unfolding share_words
share_Kept z a r =
    chosen (names z r)
    (λ n. chosen (ltb (word z a r 0) (2 ^ 64 - 1)) (λ l. word_kept z a r 0 _ (has_low z r 0 n (omega arith))) (λ l. kept_refl z a))
    (λ n. kept_refl z a)

pub unshare_Kept : (z : Shape) (a : List ℕ) (r : ℕ) → names z r ≡ true → Kept z a (unshare_words z a r)
unshare_Kept z a r n = word_kept z a r 0 _ (has_low z r 0 n (omega arith))

pub take_Kept : (z : Shape) (a : List ℕ) (k : ℕ) → k < 2 → Kept z a (take_words z a k)
unfolding take_words cell_taken
take_Kept z a k l =
    let r = by_kind a 8 k in
    chosen (takeable z a k r)
    (λ e.
    let n = (takeable_says z a k r e).named in
    kept_trans (word_kept z a r 0 _ (has_low z r 0 n (omega arith)))
    (kept_trans (word_kept z _ r 1 _ (has_low z r 1 n (omega arith)))
    (kept_trans (kind_Kept z _ (8 + k) _ (omega arith) (omega arith)) (kind_Kept z _ (10 + k) _ (omega arith) (omega arith)))))
    (λ e. kept_refl z a)

pub fill_entry_Kept : (z : Shape) (a : List ℕ) (r l n : ℕ) (x : Entry) → names z r ≡ true → kind_of r ≡ 1 → Kept z a (fill_entry_words z a r l n x)
unfolding fill_entry_words
fill_entry_Kept z a r l n x e k1 =
    let o : kind_of r ≡ 0 → ⊥ = λ q. omega arith in
    kept_trans (word_kept z a r 1 _ (has_entry z r 1 e o (omega arith)))
    (kept_trans (word_kept z _ r 2 _ (has_entry z r 2 e o (omega arith)))
    (kept_trans (word_kept z _ r 3 _ (has_entry z r 3 e o (omega arith)))
    (kept_trans (word_kept z _ r 4 _ (has_entry z r 4 e o (omega arith))) (word_kept z _ r 5 _ (has_entry z r 5 e o (omega arith))))))

row_kept : (z : Shape) (r : ℕ) (row : ℕ → ℕ) (n : ℕ) (a : List ℕ) → names z r ≡ true → kind_of r ≡ 0 → n ≤ z.degree
    → Kept z a (row_words z r row n a)
unfolding row_words
row_kept z r row zero a e o l = kept_refl z a
row_kept z r row (suc n) a e o l =
    kept_trans (row_kept z r row n a e o (omega arith)) (word_kept z _ r (3 + n) _ (has_branch z r (3 + n) e o (omega arith)))

pub fill_branch_Kept : (z : Shape) (a : List ℕ) (r t bm : ℕ) (row : ℕ → ℕ) → names z r ≡ true → kind_of r ≡ 0
    → Kept z a (fill_branch_words z a r t bm row)
unfolding fill_branch_words
fill_branch_Kept z a r t bm row e o =
    kept_trans (word_kept z a r 1 _ (has_low z r 1 e (omega arith)))
    (kept_trans (word_kept z _ r 2 _ (has_low z r 2 e (omega arith))) (row_kept z r row z.degree _ e o (omega arith)))

pub put_in_Kept : (z : Shape) (a : List ℕ) (r k v : ℕ) → k < refs z r → Kept z a (put_in_words z a r k v)
put_in_Kept z a r k v l = word_kept z a r _ v (has_kid z r k l)

pub take_out_Kept : (z : Shape) (a : List ℕ) (r k : ℕ) → k < refs z r → Kept z a (take_out_words z a r k)
take_out_Kept z a r k l = put_in_Kept z a r k 0 l

blank_Kept : (z : Shape) (a : List ℕ) (r : ℕ) → names z r ≡ true → Kept z a (blank_words z a r)
unfolding blank_words
blank_Kept z a r n =
    chosen (eqb (kind_of r) 0)
    (λ e. word_kept z a r 2 0 (has_low z r 2 n (omega arith)))
    (λ e.
    let o : kind_of r ≡ 0 → ⊥ = eqb-false (kind_of r) 0 e in
    kept_trans (word_kept z a r 3 0 (has_entry z r 3 n o (omega arith)))
    (kept_trans (word_kept z _ r 4 0 (has_entry z r 4 n o (omega arith))) (word_kept z _ r 5 0 (has_entry z r 5 n o (omega arith)))))

pub give_back_Kept : (z : Shape) (a : List ℕ) (r : ℕ) → names z r ≡ true → Kept z a (give_back_words z a r)
unfolding give_back_words
give_back_Kept z a r n =
    kept_trans (blank_Kept z a r n)
    (kept_trans (word_kept z _ r 0 _ (has_low z r 0 n (omega arith)))
    (kept_trans (word_kept z _ r 1 _ (has_low z r 1 n (omega arith)))
    (kept_trans (kind_Kept z _ (8 + kind_of r) _ (omega arith) (omega arith)) (kind_Kept z _ (10 + kind_of r) _ (omega arith) (omega arith)))))

pub slots_kept : (z : Shape) (a : List ℕ) (s h r n : ℕ) → 3 ≤ z.stride → s < z.slots → Kept z a (set_slot_words z a s h r n)
unfolding set_slot_words
slots_kept z a s h r n wide l =
    kept_trans (slot_kept z a s 0 h l (omega arith))
    (kept_trans (slot_kept z _ s 1 r l (omega arith)) (slot_kept z _ s 2 n l (omega arith)))
