-- Laws of what `set` and `remove` leave. Setting or clearing the bit i moves the ranks behind i by one and no others, which
-- is just how the words are moved, so that every other index still shows its word; and since an array is shown in one way
-- only, what a change leaves is settled to the last word. Assumes nothing.
use Prim.Native.Nat.{ℕ, suc, ◌+◌, ◌-◌, ◌^◌, ◌≤◌, ◌<◌}
use mathlib.Core.Path.{◌≡◌, refl, sym, ap, ◌∙◌}
use mathlib.Core.Logic.{⊎_elim}
use mathlib.Core.Bool.{true≢false}
use mathlib.Core.List.{List}
use native.Mathlib.Omega.{arith}
use lib.Bits.{bit_or, bit_xor, or_lt, xor_lt}
use lib.ListN.{length, get_or, set, take, length-set}
use lib.Pow.{pow-lt}
use lib.Seq.{get_or-set_same, get_or-set_other, get_or-take, ext_get_or}
use Rattle.sparse_array.specs.Bitmap.{bit, below, size_of}
use Rattle.sparse_array.specs.Array.{Slot, nothing, word, holds, put, held}
use Rattle.sparse_array.specs.Shift.{Inserted, TakenOut}
use Rattle.sparse_array.specs.Changes.{Becomes, Changes, Sets, Removes}
use Rattle.std.specs.Prelude.{Some, None, Result, Ok, Err}
use Rattle.sparse_array.specs.Places.{refused}
use Rattle.sparse_array.specs.declared.Refused.{Refused}
use Rattle.cases.proofs.Cases.{lt?, eq?}
use Rattle.sparse_array.proofs.Bitmap.{bit_cases, OnlyAt, below_mono, below_set, below_own, below_size, below_only_upto, below_only_behind, or_only, or_there, xor_only, xor_there}
use Rattle.sparse_array.proofs.Places.{Says}
use Rattle.sparse_array.proofs.Room.{granted_both, refused_index, refused_room}
use Rattle.sparse_array.proofs.Array.{holds-nothing, holds-word, put_same, put_other, held-bit, shown_once}

-- ---- what the array shows after a change at one index

module _ (b b' : ℕ) (w w' : List ℕ) (i : ℕ) (o : OnlyAt i b b') where
  -- Each other index that held a word finds it at its new rank.
  abbrev Follows : Type 0
  Follows = (j : ℕ) → (j ≡ i → ⊥) → bit b j ≡ 1 → get_or w' (below b' j) 0 ≡ get_or w (below b j) 0

  abbrev word_at : ℕ → ℕ
  word_at k = get_or w' k 0

  shows_other : Follows → (j : ℕ) → (j ≡ i → ⊥) → holds b' w' j ≡ holds b w j
  shows_other fw j ne =
      ⊎_elim
      (λ (e : bit b j ≡ 0). holds-nothing b' w' j (o j ne ∙ e) ∙ sym (holds-nothing b w j e))
      (λ (e : bit b j ≡ 1). holds-word b' w' j (o j ne ∙ e) ∙ ap word (fw j ne e) ∙ sym (holds-word b w j e))
      (bit_cases b j)

  shows_put : (s : Slot) → holds b' w' i ≡ s → Follows → (j : ℕ) → holds b' w' j ≡ put (holds b w) i s j
  shows_put s here fw j =
      ⊎_elim
      (λ (e : j ≡ i). ap (holds b' w') e ∙ here ∙ sym (put_same (holds b w) i s) ∙ ap (put (holds b w) i s) (sym e))
      (λ (ne : j ≡ i → ⊥). shows_other fw j ne ∙ sym (put_other (holds b w) i s j ne))
      (eq? j i)

  Follows-Inserted : (v : ℕ) → b < 2 ^ 64 → bit b i ≡ 0 → bit b' i ≡ 1 → Inserted w (below b i) (size_of b) v w' → Follows
  Follows-Inserted v f e e' ins j ne ej =
      ⊎_elim
      (λ (l : j < i). ap word_at (below_only_upto i b b' o j (omega arith)) ∙ ins.before (below b j) (below_set b j i ej l))
      (λ (g : i ≤ j).
      ap word_at {x = below b' j} {y = suc (below b j)} (omega (arith, below_only_behind i b b' o j (omega (arith, ne))))
      ∙ ins.behind (below b j) (below_mono b j g) (below_size b j f ej))
      (lt? j i)

  Follows-TakenOut : b < 2 ^ 64 → bit b i ≡ 1 → bit b' i ≡ 0 → TakenOut w (below b i) (size_of b) w' → Follows
  Follows-TakenOut f e e' out j ne ej =
      ⊎_elim
      (λ (l : j < i). ap word_at (below_only_upto i b b' o j (omega arith)) ∙ out.before (below b j) (below_set b j i ej l))
      (λ (g : i ≤ j).
      let next : suc (below b' j) ≡ below b j = omega (arith, below_only_behind i b b' o j (omega (arith, ne))) in
      out.behind (below b' j) (omega (arith, below_set b i j e (omega (arith, ne)))) (omega (arith, below_size b j f ej))
      ∙ ap (λ (k : ℕ). get_or w k 0) next)
      (lt? j i)

-- A word stored at the rank of an index that holds one.
pub Becomes-replaced : (b : ℕ) (w : List ℕ) (i v : ℕ) → b < 2 ^ 64 → size_of b ≤ length w → bit b i ≡ 1
    → Becomes b w (put (holds b w) i (word v)) b (set w (below b i) v)
Becomes-replaced b w i v f r e =
    let in_size = below_size b i f e in
    record {
      fits = f;
      room = simp length-set r;
      shows =
          shows_put b b w (set w (below b i) v) i (λ j ne. refl) (word v)
          (holds-word b (set w (below b i) v) i e ∙ ap word (get_or-set_same w (below b i) v 0 (omega arith)))
          (λ j ne ej. get_or-set_other w (below b i) (below b j) v 0 (below_own b i j e ej ne));
      given_up = λ k h g. absurd (omega arith);
      rest = λ k h g. get_or-set_other w (below b i) k v 0 (λ q. omega arith);
      long = length-set w (below b i) v;
    }

-- A word inserted at the rank of an index that held nothing.
pub Becomes-Inserted : (b b' : ℕ) (w w' : List ℕ) (i v : ℕ) → b < 2 ^ 64 → b' < 2 ^ 64 → i < 64 → OnlyAt i b b' → bit b i ≡ 0 → bit b' i ≡ 1
    → size_of b < length w → Inserted w (below b i) (size_of b) v w' → Becomes b w (put (holds b w) i (word v)) b' w'
Becomes-Inserted b b' w w' i v f f' h o e e' r ins =
    let one_more : size_of b' ≡ suc (size_of b) = omega (arith, below_only_behind i b b' o 64 h) in
    record {
      fits = f';
      room = omega (arith, ins.long);
      shows =
          shows_put b b' w w' i o (word v)
          (holds-word b' w' i e' ∙ ap word (ap (λ (k : ℕ). get_or w' k 0) (below_only_upto i b b' o i (omega arith)) ∙ ins.there))
          (Follows-Inserted b b' w w' i o v f e e' ins);
      given_up = λ k p q. absurd (omega arith);
      rest = λ k p q. ins.rest k (omega arith);
      long = ins.long;
    }

-- The word at the rank of an index taken out.
pub Becomes-TakenOut : (b b' : ℕ) (w w' : List ℕ) (i : ℕ) → b < 2 ^ 64 → b' < 2 ^ 64 → i < 64 → OnlyAt i b b' → bit b i ≡ 1 → bit b' i ≡ 0
    → size_of b ≤ length w → TakenOut w (below b i) (size_of b) w' → Becomes b w (put (holds b w) i nothing) b' w'
Becomes-TakenOut b b' w w' i f f' h o e e' r out =
    let one_less : suc (size_of b') ≡ size_of b = omega (arith, below_only_behind i b b' o 64 h) in
    record {
      fits = f';
      room = omega (arith, out.long);
      shows =
          shows_put b b' w w' i o nothing (holds-nothing b' w' i e')
          (Follows-TakenOut b b' w w' i o f e e' out);
      given_up = λ k p q. out.given_up k (omega arith);
      rest = λ k p q. out.rest k q;
      long = out.long;
    }

-- Nothing done at an index that holds nothing.
pub Becomes-same : (b : ℕ) (w : List ℕ) (i : ℕ) → b < 2 ^ 64 → size_of b ≤ length w → bit b i ≡ 0 → Becomes b w (put (holds b w) i nothing) b w
Becomes-same b w i f r e =
    record {
      fits = f;
      room = r;
      shows = shows_put b b w w i (λ j ne. refl) nothing (holds-nothing b w i e) (λ j ne ej. refl);
      given_up = λ k p q. absurd (omega arith);
      rest = λ k p q. refl;
      long = refl;
    }

-- ---- what `set` and `remove` answer, by the answer of `map_index`

module _ (b : ℕ) (w : List ℕ) (i : ℕ) where
  pub set_Refused : (v : ℕ) → 64 ≤ i → Sets b w i v refused w
  set_Refused v h = (refused_index i (size_of b + (1 - bit b i)) w h, refl)

  pub set_At-Refused : (v k : ℕ) → Says b i (Ok (Some k)) → length w < size_of b → Sets b w i v refused w
  set_At-Refused v k p r = (refused_room i (size_of b + (1 - bit b i)) w (omega (arith, p.1)), refl)

  pub set_at : (v k : ℕ) → b < 2 ^ 64 → Says b i (Ok (Some k)) → size_of b ≤ length w → Sets b w i v (Ok b) (set w k v)
  set_at v k f p r = (
    granted_both i (size_of b + (1 - bit b i)) w p.0 (omega (arith, p.1)),
    rw p.2 (Becomes-replaced b w i v f r p.1),
  )

  pub set_new_Refused : (v : ℕ) → Says b i (Ok None) → length w ≤ size_of b → Sets b w i v refused w
  set_new_Refused v p r = (refused_room i (size_of b + (1 - bit b i)) w (omega (arith, p.1)), refl)

  pub set_new : (v m : ℕ) (w' : List ℕ) → b < 2 ^ 64 → Says b i (Ok None) → size_of b < length w → Inserted w (below b i) (size_of b) v w' → m ≡ 2 ^ i
      → Sets b w i v (Ok (bit_or b m)) w'
  set_new v m w' f p r ins e = (
    granted_both i (size_of b + (1 - bit b i)) w p.0 (omega (arith, p.1)),
    rw e
        (Becomes-Inserted b (bit_or b (2 ^ i)) w w' i v f (or_lt 64 b (2 ^ i) f (pow-lt p.0)) p.0 (or_only b i) p.1 (or_there b i) r ins),
  )

  pub remove_Refused : 64 ≤ i → Removes b w i refused w
  remove_Refused h = (refused_index i (size_of b) w h, refl)

  pub remove_short : length w < size_of b → Removes b w i refused w
  remove_short r = (refused_room i (size_of b) w r, refl)

  pub remove_Nothing : b < 2 ^ 64 → Says b i (Ok None) → size_of b ≤ length w → Removes b w i (Ok b) w
  remove_Nothing f p r = (granted_both i (size_of b) w p.0 r, Becomes-same b w i f r p.1)

  pub remove_At : (k m : ℕ) (w' : List ℕ) → b < 2 ^ 64 → Says b i (Ok (Some k)) → size_of b ≤ length w → TakenOut w k (size_of b) w' → m ≡ 2 ^ i
      → Removes b w i (Ok (bit_xor b m)) w'
  remove_At k m w' f p r out q = (
    granted_both i (size_of b) w p.0 r,
    rw q
        (Becomes-TakenOut b (bit_xor b (2 ^ i)) w w' i f (xor_lt 64 b (2 ^ i) f (pow-lt p.0)) p.0 (xor_only b i) p.1 (xor_there b i p.1) r
        (rw p.2 at out)),
  )

-- ---- a contract has one outcome

module _ (b : ℕ) (w : List ℕ) (A : ℕ → Slot) (b₁ b₂ : ℕ) (w₁ w₂ : List ℕ) (x : Becomes b w A b₁ w₁) (y : Becomes b w A b₂ w₂) where
  once : (b₁ ≡ b₂) × (take (size_of b₁) w₁ ≡ take (size_of b₂) w₂)
  once = shown_once b₁ b₂ w₁ w₂ x.fits y.fits x.room y.room (λ j. x.shows j ∙ sym (y.shows j))

  sizes : size_of b₁ ≡ size_of b₂
  sizes = ap size_of once.0

  word_packed : (k : ℕ) → k < size_of b₁ → get_or w₁ k 0 ≡ get_or w₂ k 0
  word_packed k l =
      sym (get_or-take (size_of b₁) w₁ k 0 l) ∙ ap (λ (ws : List ℕ). get_or ws k 0) once.1
      ∙ get_or-take (size_of b₂) w₂ k 0 (omega (arith, sizes))

  word_behind : (k : ℕ) → size_of b₁ ≤ k → get_or w₁ k 0 ≡ get_or w₂ k 0
  word_behind k g =
      ⊎_elim
      (λ (l : k < size_of b). x.given_up k g l ∙ sym (y.given_up k (omega (arith, sizes)) l))
      (λ (q : size_of b ≤ k). x.rest k g q ∙ sym (y.rest k (omega (arith, sizes)) q))
      (lt? k (size_of b))

  pub becomes_once : (b₁ ≡ b₂) × (w₁ ≡ w₂)
  becomes_once = (
    once.0,
    ext_get_or 0 w₁ w₂ (x.long ∙ sym y.long) (λ k h. ⊎_elim (word_packed k) (word_behind k) (lt? k (size_of b₁))),
  )

-- `set` and `remove` have one answer, and leave one list of words.
pub Changes-once : (b : ℕ) (w : List ℕ) (i need : ℕ) (A : ℕ → Slot) (r₁ r₂ : Result ℕ Refused) (w₁ w₂ : List ℕ)
    → Changes b w i need A r₁ w₁ → Changes b w i need A r₂ w₂ → (r₁ ≡ r₂) × (w₁ ≡ w₂)
Changes-once b w i need A (Ok b₁) (Ok b₂) w₁ w₂ x y =
    let same = becomes_once b w A b₁ b₂ w₁ w₂ x.1 y.1 in
    (ap Ok same.0, same.1)
Changes-once b w i need A (Ok b₁) (Err _) w₁ w₂ x y = absurd (true≢false (sym x.0 ∙ y.0))
Changes-once b w i need A (Err _) (Ok b₂) w₁ w₂ x y = absurd (true≢false (sym y.0 ∙ x.0))
Changes-once b w i need A (Err _) (Err _) w₁ w₂ x y = (refl, x.1 ∙ sym y.1)

-- ---- what follows from a change

module _ (b : ℕ) (w : List ℕ) (i : ℕ) (s : Slot) (b' : ℕ) (w' : List ℕ) (x : Becomes b w (put (holds b w) i s) b' w') where
  pub bit_there : bit b' i ≡ held s
  bit_there = sym (held-bit b' w' i) ∙ ap held (x.shows i ∙ put_same (holds b w) i s)

  pub bit_others : OnlyAt i b b'
  bit_others j ne = sym (held-bit b' w' j) ∙ ap held (x.shows j ∙ put_other (holds b w) i s j ne) ∙ held-bit b w j

  -- The size goes up by one for a new word, down by one for a word that is removed, and else stays.
  pub size_after : i < 64 → size_of b' + bit b i ≡ size_of b + held s
  size_after h = below_only_behind i b b' bit_others 64 h ∙ ap (λ (k : ℕ). size_of b + k) bit_there

-- "The other child words 0": where the words behind the packed ones are 0 before a change, they are 0 after it.
pub others_zero : (b : ℕ) (w : List ℕ) (A : ℕ → Slot) (b' : ℕ) (w' : List ℕ) → Becomes b w A b' w'
    → ((k : ℕ) → size_of b ≤ k → get_or w k 0 ≡ 0) → (k : ℕ) → size_of b' ≤ k → get_or w' k 0 ≡ 0
others_zero b w A b' w' x z k h =
    ⊎_elim
    (λ (l : k < size_of b). x.given_up k h l)
    (λ (g : size_of b ≤ k). x.rest k h g ∙ z k g)
    (lt? k (size_of b))
