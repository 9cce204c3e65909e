-- Document 01: "Listing from a place writes hash, key, value for each entry while three words of room remain, and answers how
-- many. .. The remaining room is left."
use Rattle.std.specs.Prelude.{ℕ, ◌*◌, ◌/◌, List, [], ◌∷◌, ◌++◌, length, take, drop}
use Rattle.trie.specs.declared.Entry.{Entry}

-- the words of entries: hash, key, value for each
abbrev pub entry_words : List Entry → List ℕ
entry_words [] = []
entry_words (e ∷ es) = e.hash ∷ e.key ∷ e.value ∷ entry_words es

-- the entries of a listing that are written: those from the place on, as many as the words of room have threes
unfoldable pub written : List Entry → ℕ → ℕ → List Entry
written es place room = take (room / 3) (drop place es)

-- the output afterwards
unfoldable pub written_over : List Entry → List ℕ → List ℕ
written_over es out = entry_words es ++ drop (3 * length es) out
