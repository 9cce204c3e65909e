-- "A trie that the rules above can build" (document 01, SOUND): the tries that inserts and removes make of the empty one.
-- Names play no part.
use Rattle.std.specs.Prelude.{◌≡◌, ℕ}
use Rattle.trie.specs.declared.Entry.{Entry}
use Rattle.trie.specs.Entry.{Word64}
use Rattle.trie.specs.Trie.{empty, Map, remove, updated, insert}

abbrev pub unnamed : ℕ → Unit {0}
unnamed j = tt

module _ (seg : ℕ → ℕ → ℕ) (d : ℕ) where
  pub data Built : Map (Unit {0}) → Type 0 where
    nothing : Built empty
    inserted : {m : Map (Unit {0})} (e : Entry) → Word64 e → Built m → Built (insert seg d unnamed unnamed e m)
    removed : {m m' : Map (Unit {0})} (h k : ℕ) → Built m → remove seg d unnamed unnamed h k m ≡ updated m' → Built m'
