-- Entries. Document 01, "The crate's part and ours": keys, values and hashes are 64-bit unsigned numbers; two entries are the
-- same key only if hash and key both agree.
use Rattle.std.specs.Prelude.{Bool, false, cond, ℕ, ◌^◌, ◌<◌, eqb}
use Rattle.trie.specs.declared.Entry.{Entry}

pub record Word64 (e : Entry) : Type 0 where
  pub hash_fits : e.hash < 2 ^ 64
  pub key_fits : e.key < 2 ^ 64
  pub value_fits : e.value < 2 ^ 64

-- whether an entry has this hash and this key
unfoldable pub matches : ℕ → ℕ → Entry → Bool
matches h k e = cond (eqb e.hash h) (eqb e.key k) false

-- what a lookup answers
pub data Got : Type 0 where
  absent : Got
  got : ℕ → Got

unfoldable pub if_got : {A : Type 0} → Got → A → A → A
if_got absent a b = b
if_got (got v) a b = a
