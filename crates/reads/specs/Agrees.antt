-- Document 01: "each entry of one is in the other with the same value". The one is what is met below a root, on any words, and
-- the other is what a lookup finds below another root.
use Rattle.std.specs.Prelude.{ℕ, Bool, List}
use Rattle.trie.specs.declared.Entry.{Entry}
use Rattle.trie.specs.Trie.{answers, every}
use Rattle.layout.specs.declared.Shape.{Shape}
use Rattle.lookup.specs.Lookup.{get_below}
use Rattle.iter.specs.Met.{met}

abbrev pub is_entry_in : Shape → List ℕ → ℕ → Entry → Bool
is_entry_in z a r e = answers (get_below z a r e.hash e.key) e.value

abbrev pub agree : Shape → List ℕ → ℕ → ℕ → Bool
agree z a r s = every (is_entry_in z a s) (met z a r)
