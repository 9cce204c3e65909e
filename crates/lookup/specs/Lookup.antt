-- What a lookup meets, on any words: document 01, "The trie" and "Depths", followed through the columns of an arena. On an
-- edition this is what the trie's own definition finds (proofs/Meaning.antt); on damaged words it is what the walk comes to.
use Rattle.std.specs.Prelude.{ℕ, zero, suc, Bool, false, cond, List, eqb, Option, Some, None, Ok, Err}
use Rattle.segments.specs.Segments.{segment}
use Rattle.sparse_array.specs.Places.{Place, place_of}
use Rattle.trie.specs.declared.Entry.{Entry}
use Rattle.trie.specs.Entry.{matches, Got, absent, got}
use Rattle.layout.specs.declared.Shape.{Shape}
use Rattle.layout.specs.Layout.{kind_of, names}
use Rattle.layout.specs.Columns.{State, columns}

-- whether a reference names a branch cell, or an entry cell: its kind is 0, or 1
unfoldable pub names_kind : Shape → ℕ → ℕ → Bool
names_kind z k r = cond (eqb (kind_of r) k) (names z r) false

-- an entry cell's hash, key and value
abbrev pub entry_at : State → ℕ → Entry
entry_at σ r = record { hash = σ.plain r 0; key = σ.plain r 1; value = σ.plain r 2 }

-- the child at a place among the packed ones; 0 where there is none
abbrev pub child_in : State → ℕ → Place → ℕ
child_in σ r (Ok (Some i)) = σ.kid r i
child_in σ r (Ok None) = 0
child_in σ r (Err _) = 0

-- the child of the branch r at a segment, by the branch's bitmap
abbrev pub kid_at : State → ℕ → ℕ → ℕ
kid_at σ r s = child_in σ r (place_of (σ.plain r 0) s)

-- where the path of the hash h goes from the branch r at depth t
abbrev pub hop : Shape → State → ℕ → ℕ → ℕ → ℕ
hop z σ h t r = kid_at σ r (segment z.bits t h)

-- where it ends: from the reference r at depth t, with n depths left
unfoldable pub path_end : Shape → State → ℕ → ℕ → ℕ → ℕ → ℕ
path_end z σ h zero t r = r
path_end z σ h (suc n) t r = cond (names_kind z 0 r) (path_end z σ h n (suc t) (hop z σ h t r)) r

-- the first of at most n entries from r on that has this hash and this key
unfoldable pub hit_from : Shape → State → ℕ → ℕ → ℕ → ℕ → Option ℕ
hit_from z σ h k zero r = None
hit_from z σ h k (suc n) r =
    cond (names_kind z 1 r) (cond (matches h k (entry_at σ r)) (Some r) (hit_from z σ h k n (σ.kid r 0))) None

-- a chain has no more entries than the arena
abbrev pub longest : Shape → ℕ
longest z = z.entries

-- the entry below a root
abbrev pub hit_below : Shape → List ℕ → ℕ → ℕ → ℕ → Option ℕ
hit_below z a r h k = hit_from z (columns z a) h k (longest z) (path_end z (columns z a) h z.depths 0 r)

abbrev pub value_at : State → Option ℕ → Got
value_at σ (Some r) = got (σ.plain r 2)
value_at σ None = absent

-- the value below a root
abbrev pub get_below : Shape → List ℕ → ℕ → ℕ → ℕ → Got
get_below z a r h k = value_at (columns z a) (hit_below z a r h k)

-- an answer of the code as one of the trie
abbrev pub looked : Option ℕ → Got
looked (Some v) = got v
looked None = absent
