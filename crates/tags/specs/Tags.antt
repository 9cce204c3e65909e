-- Document 01, "Tag classes": what each class says of a group and an element, the class of a pair as a function, and key rule 1.
-- `Is` is what a reader must believe. `class_of` computes it; that the two agree is proved in proofs/TagLaws.antt.
use Rattle.std.specs.Prelude.{ℕ, ◌+◌, ◌*◌, ◌/◌, ◌%◌, ◌≤◌, ◌<◌, ◌≡◌, Bool, ◌&&◌, cond, eqb, leb}
use Rattle.tags.specs.declared.Class.{Class}
use Rattle.tags.specs.declared.Class.TheVariants.{Public, Creator, Element, Unassigned}

-- An element lies in a range whose two ends belong to it.
abbrev pub Within : ℕ → ℕ → ℕ → Type 0
Within first last e = (first ≤ e) × (e ≤ last)

-- "An even group is public. An odd group is private."
abbrev pub Even : ℕ → Type 0
Even g = g % 2 ≡ 0

abbrev pub Odd : ℕ → Type 0
Odd g = g % 2 ≡ 1

-- What a class says of a pair. "Elements 0010 to 00FF (hex) are creators of that block; elements 1000 to FFFF belong to the block in
-- their high byte, with a low byte; any other is unassigned."
unfoldable pub Is : Class → ℕ → ℕ → Type 0
Is Public g e = Even g
Is (Creator block) g e = Odd g × Within 0x0010 0x00FF e × (block ≡ e)
Is (Element block low) g e = Odd g × Within 0x1000 0xFFFF e × (e ≡ block * 256 + low) × (low < 256)
Is Unassigned g e = Odd g × (Within 0x0010 0x00FF e → ⊥) × (Within 0x1000 0xFFFF e → ⊥)

-- The test of `Within`.
unfoldable pub within : ℕ → ℕ → ℕ → Bool
within first last e = leb first e && leb e last

-- The tests by which the sentences of `Is` are told apart.
unfoldable pub is_public : ℕ → Bool
is_public g = eqb (g % 2) 0

unfoldable pub is_creator : ℕ → Bool
is_creator e = within 0x0010 0x00FF e

unfoldable pub is_element : ℕ → Bool
is_element e = within 0x1000 0xFFFF e

-- The class of a pair, by these tests in their order.
unfoldable pub class_of : ℕ → ℕ → Class
class_of g e =
    cond (is_public g) Public
    (cond (is_creator e) (Creator e)
    (cond (is_element e) (Element (e / 256) (e % 256))
    Unassigned))

-- "Key rule 1: group·65,536 + element."
abbrev pub key1 : ℕ → ℕ → ℕ
key1 g e = g * 65536 + e
