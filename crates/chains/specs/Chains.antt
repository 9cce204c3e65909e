-- What the writers of chains do to the words, on any words. What it means on a sound arena is in proofs/Meaning.antt.
use Rattle.std.specs.Prelude.{ℕ, zero, suc, ◌-◌, cond, List}
use Rattle.trie.specs.declared.Entry.{Entry}
use Rattle.layout.specs.declared.Shape.{Shape}
use Rattle.layout.specs.Columns.{State, columns}
use Rattle.lookup.specs.Lookup.{names_kind, entry_at}
use Rattle.cells.specs.Mirrors.{Wrote, wrote, and_then, taken, share_words, fill_entry_words, put_in_words}

-- how long the chain is whose front is r; 0 where r names no entry
unfoldable pub length_at : Shape → State → ℕ → ℕ
length_at z σ r = cond (names_kind z 1 r) (σ.mark r) 0

abbrev pub an_entry : ℕ → ℕ → ℕ → Entry
an_entry h k v = record { hash = h; key = k; value = v }

-- NEW: an entry with nothing behind it, and the length of the chain that will stand from it on
unfoldable pub entry_made : Shape → List ℕ → ℕ → Entry → Wrote
entry_made z a l e =
    and_then (taken z a 1) (λ c w. wrote c (fill_entry_words z w c l 0 e))

-- COPY: the entry r once more, in a chain that is one shorter from there on
abbrev pub entry_copied : Shape → List ℕ → ℕ → Wrote
entry_copied z a r = entry_made z a ((columns z a).mark r - 1) (entry_at (columns z a) r)

-- copies of n entries from r on, one behind the other, behind the entry c; answered is the last of them
unfoldable pub copied_on : Shape → ℕ → ℕ → ℕ → List ℕ → Wrote
copied_on z zero c r a = wrote c a
copied_on z (suc n) c r a =
    cond (names_kind z 1 r)
    (and_then (entry_copied z a r) (λ d w. copied_on z n d ((columns z a).kid r 0) (put_in_words z w c 0 d)))
    (wrote 0 a)

-- PUSH: a new entry in front of copies of n entries from r on, and of the chain q, which is shared
unfoldable pub closed : Shape → ℕ → ℕ → Wrote → Wrote
closed z c q s = and_then s (λ d w. wrote c (put_in_words z (share_words z w q) d 0 q))

unfoldable pub front_pushed : Shape → List ℕ → ℕ → Entry → ℕ → ℕ → ℕ → Wrote
front_pushed z a l e n r q = and_then (entry_made z a l e) (λ c w. closed z c q (copied_on z n c r w))

-- TAKE FROM: copies of the n entries from r on, and the chain q behind the entry that is taken out, which is shared
unfoldable pub taken_from : Shape → ℕ → ℕ → ℕ → List ℕ → Wrote
taken_from z zero r q a = wrote q (share_words z a q)
taken_from z (suc n) r q a =
    cond (names_kind z 1 r)
    (and_then (entry_copied z a r) (λ c w. closed z c q (copied_on z n c ((columns z a).kid r 0) w)))
    (wrote 0 a)
