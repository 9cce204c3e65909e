-- What each writer of cells and slots does to the words, on any words. What it means on a sound arena is in proofs/Meaning.antt.
use Rattle.std.specs.Prelude.{ℕ, zero, suc, ◌+◌, ◌-◌, ◌^◌, Bool, false, cond, List, eqb, ltb, get_or, set}
use Rattle.trie.specs.declared.Entry.{Entry}
use Rattle.layout.specs.declared.Shape.{Shape}
use Rattle.layout.specs.Layout.{kind_of, cells_of, names}
use Rattle.layout.specs.Columns.{word, by_kind, kid_place, word_set}

-- what a writer of cells answers and leaves: a reference, or 0 where no cell could be taken, and the words
pub record Wrote : Type 0 where
  pub at : ℕ
  pub words : List ℕ

abbrev pub wrote : ℕ → List ℕ → Wrote
wrote r b = record { at = r; words = b }

-- where nothing could be taken, nothing more is done
unfoldable pub and_then : Wrote → (ℕ → List ℕ → Wrote) → Wrote
and_then s f = cond (eqb s.at 0) s (f s.at s.words)

-- one more, where a word has room for it
unfoldable pub one_more : ℕ → ℕ
one_more n = cond (ltb n (2 ^ 64 - 1)) (n + 1) n

-- SHARE: one more word will name the cell. Nothing where r names no cell, as 0 does, or where the count cannot rise.
unfoldable pub share_words : Shape → List ℕ → ℕ → List ℕ
share_words z a r =
    cond (names z r) (cond (ltb (word z a r 0) (2 ^ 64 - 1)) (word_set z a r 0 (word z a r 0 + 1)) a) a

-- UNSHARE: one word fewer names the cell
abbrev pub unshare_words : Shape → List ℕ → ℕ → List ℕ
unshare_words z a r = word_set z a r 0 (word z a r 0 - 1)

-- TAKE: whether r, the first of a free chain, can be taken: it names a cell of the kind, that cell is free, and fewer cells are
-- in use than there are
unfoldable pub takeable : Shape → List ℕ → ℕ → ℕ → Bool
takeable z a k r =
    cond (names z r) (cond (eqb (kind_of r) k) (cond (eqb (word z a r 0) 0) (ltb (by_kind a 10 k) (cells_of z k)) false) false) false

unfoldable pub taken_of : Shape → List ℕ → ℕ → ℕ
taken_of z a k = cond (takeable z a k (by_kind a 8 k)) (by_kind a 8 k) 0

unfoldable pub cell_taken : Shape → List ℕ → ℕ → ℕ → List ℕ
cell_taken z a k r = set (set (word_set z (word_set z a r 0 1) r 1 0) (8 + k) (word z a r 1)) (10 + k) (by_kind a 10 k + 1)

unfoldable pub take_words : Shape → List ℕ → ℕ → List ℕ
take_words z a k = cond (takeable z a k (by_kind a 8 k)) (cell_taken z a k (by_kind a 8 k)) a

abbrev pub taken : Shape → List ℕ → ℕ → Wrote
taken z a k = wrote (taken_of z a k) (take_words z a k)

-- FILL: the words of a cell that was taken
unfoldable pub fill_entry_words : Shape → List ℕ → ℕ → ℕ → ℕ → Entry → List ℕ
fill_entry_words z a r length next x =
    word_set z (word_set z (word_set z (word_set z (word_set z a r 1 length) r 2 next) r 3 x.hash) r 4 x.key) r 5 x.value

-- a list of words as a row
abbrev pub listed : List ℕ → ℕ → ℕ
listed row k = get_or row k 0

-- the first n references of a row, as children
unfoldable pub row_words : Shape → ℕ → (ℕ → ℕ) → ℕ → List ℕ → List ℕ
row_words z r row zero a = a
row_words z r row (suc n) a = word_set z (row_words z r row n a) r (3 + n) (row n)

unfoldable pub fill_branch_words : Shape → List ℕ → ℕ → ℕ → ℕ → (ℕ → ℕ) → List ℕ
fill_branch_words z a r depth bitmap row = row_words z r row z.degree (word_set z (word_set z a r 1 depth) r 2 bitmap)

-- PUT IN: a cell holds a reference at a place. TAKE OUT: it holds none there any more.
abbrev pub put_in_words : Shape → List ℕ → ℕ → ℕ → ℕ → List ℕ
put_in_words z a r k v = word_set z a r (kid_place (kind_of r) + k) v

abbrev pub take_out_words : Shape → List ℕ → ℕ → ℕ → List ℕ
take_out_words z a r k = put_in_words z a r k 0

-- GIVE BACK: the cell in front of its free chain, its words other than references 0
unfoldable pub blank_words : Shape → List ℕ → ℕ → List ℕ
blank_words z a r =
    cond (eqb (kind_of r) 0) (word_set z a r 2 0) (word_set z (word_set z (word_set z a r 3 0) r 4 0) r 5 0)

unfoldable pub give_back_words : Shape → List ℕ → ℕ → List ℕ
give_back_words z a r =
    set
    (set (word_set z (word_set z (blank_words z a r) r 0 0) r 1 (by_kind a 8 (kind_of r))) (8 + kind_of r) r)
    (10 + kind_of r)
    (by_kind a 10 (kind_of r) - 1)
