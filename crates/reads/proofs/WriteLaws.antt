-- The loop that writes a listing, the one that goes past entries before it, and the one that compares two editions, each from
-- one turn to the next. The entries that are still to come are a list that a turn takes the first one from.
use Prim.Native.Nat.{ℕ, suc, ◌+◌, ◌-◌, ◌*◌, ◌/◌, ◌≤◌, ◌<◌}
use mathlib.Core.Path.{◌≡◌, refl, sym, ap, ◌∙◌}
use mathlib.Core.Bool.{Bool, true, false}
use mathlib.Core.Logic.{◌⊎◌, ⊎_elim}
use mathlib.Core.List.{List, [], ◌∷◌, ◌++◌, append_assoc}
use native.Mathlib.Numerals.{add-one}
use native.Mathlib.Omega.{arith}
use lib.Dec.{eqb}
use lib.ListN.{length, set, take, drop, length-append, take-append-drop}
use lib.Seq.{sets, sets-eq, length-sets, length-take-le, take_at, drop-append-add, drop-drop, take-nil}
use Rattle.trie.specs.declared.Entry.{Entry}
use Rattle.trie.specs.Entry.{Got, absent, got}
use Rattle.trie.specs.Trie.{answers, every}
use Rattle.layout.specs.declared.Shape.{Shape}
use Rattle.reads.specs.Listed.{entry_words, written, written_over}
use Rattle.iter.specs.Met.{met}
use Rattle.reads.specs.Agrees.{agree, is_entry_in}

-- WRITING. So far `end` words are written, `es` are the entries still to come, and `out` is the output now.
-- The output once all of es are written too
abbrev pub written_at : List ℕ → ℕ → List Entry → List ℕ
written_at out end es = take end out ++ (entry_words es ++ drop (end + 3 * length es) out)

-- those of es that there is room for
abbrev pub fits : List ℕ → ℕ → List Entry → List Entry
fits out end es = take ((length out - end) / 3) es

-- what each turn keeps: to write what is left, as far as there is room, is to write all from the start
pub record Rest (out₀ out : List ℕ) (all es : List Entry) (end count : ℕ) : Type 0 where
  pub counted : 3 * count ≡ end
  pub inside : end ≤ length out
  pub as_long : length out ≡ length out₀
  pub leads : written_at out end (fits out end es) ≡ written_over (take (length out₀ / 3) all) out₀
  pub many : count + length (fits out end es) ≡ length (take (length out₀ / 3) all)

pub Rest-start : {out : List ℕ} {es : List Entry} → Rest out out es es 0 0
unfolding written_over
Rest-start {out} {es} =
    let all : length out - 0 ≡ length out = omega arith in
    let same : fits out 0 es ≡ take (length out / 3) es = rw all in
    let long : 0 + 3 * length (fits out 0 es) ≡ 3 * length (take (length out / 3) es) = omega (arith, ap length same) in
    record {
      counted = refl;
      inside = omega arith;
      as_long = refl;
      leads = rw (long, same);
      many = omega (arith, ap length same);
    }

-- where there are three words of room, the first one fits and the others have three words less
fits_first : (out : List ℕ) (end : ℕ) (e : Entry) (es : List Entry) → 3 ≤ length out - end
    → fits out end (e ∷ es) ≡ e ∷ take ((length out - (end + 3)) / 3) es
fits_first out end e es room =
    let n : (length out - end) / 3 ≡ suc ((length out - (end + 3)) / 3) = omega arith in
    rw n

-- the three stores of a turn, as one run
three_stores : (out : List ℕ) (i h k v : ℕ) → set (set (set out i h) (i + 1) k) (i + 2) v ≡ sets out i (h ∷ k ∷ v ∷ [])
three_stores out i h k v =
    let two : i + 2 ≡ suc (suc i) = omega arith in
    rw (two, add-one i)

-- the same is written in the end, whether an entry is stored already or is the first of those to come
written_first : (out : List ℕ) (end : ℕ) (e : Entry) (fs : List Entry) → end + 3 ≤ length out
    → written_at (sets out end (e.hash ∷ e.key ∷ e.value ∷ [])) (end + 3) fs ≡ written_at out end (e ∷ fs)
written_first out end e fs room =
    let words : List ℕ = e.hash ∷ e.key ∷ e.value ∷ [] in
    let front : List ℕ = take end out ++ words in
    let before : length (take end out) ≡ end = length-take-le end out (omega arith) in
    let long : length front ≡ end + 3 = omega (arith, length-append (take end out) words) in
    let behind : drop (end + 3 + 3 * length fs) (front ++ drop (end + 3) out) ≡ drop (end + 3 * suc (length fs)) out
    = ap (λ (n : ℕ). drop (n + 3 * length fs) (front ++ drop (end + 3) out)) (sym long)
    ∙ drop-append-add front (drop (end + 3) out) (3 * length fs)
    ∙ drop-drop (3 * length fs) (end + 3) out
    ∙ ap (λ (n : ℕ). drop n out) {x = end + 3 + 3 * length fs} {y = end + 3 * suc (length fs)} (omega arith) in
    ap (λ (o : List ℕ). written_at o (end + 3) fs) (sets-eq words out end room)
    ∙ ap (λ (o : List ℕ). o ++ (entry_words fs ++ drop (end + 3 + 3 * length fs) (front ++ drop (end + 3) out)))
    (take_at front (drop (end + 3) out) (end + 3) long)
    ∙ ap (λ (o : List ℕ). front ++ (entry_words fs ++ o)) behind
    ∙ append_assoc (take end out) words (entry_words fs ++ drop (end + 3 * suc (length fs)) out)

-- A TURN: the words of the next entry are stored
pub Rest-next : {out₀ out : List ℕ} {all es es' : List Entry} {e x : Entry} {end count : ℕ} → Rest out₀ out all es end count
    → es ≡ e ∷ es' → 3 ≤ length out - end → x ≡ e
    → Rest out₀ (set (set (set out end x.hash) (end + 1) x.key) (end + 2) x.value) all es' (end + 3) (count + 1)
Rest-next {out₀} {out} {all} {es} {es'} {e} {x} {end} {count} R next room is =
    rw (is, three_stores out end e.hash e.key e.value) turned
  where
    stored : List ℕ
    stored = sets out end (e.hash ∷ e.key ∷ e.value ∷ [])

    long : length stored ≡ length out
    long = length-sets out end (e.hash ∷ e.key ∷ e.value ∷ [])

    first : fits out end es ≡ e ∷ fits stored (end + 3) es'
    first = rw (next, long) (fits_first out end e es' room)

    turned : Rest out₀ stored all es' (end + 3) (count + 1)
    turned =
        record {
          counted = omega (arith, R.counted);
          inside = omega (arith, long);
          as_long = long ∙ R.as_long;
          leads =
              written_first out end e (fits stored (end + 3) es') (omega arith)
              ∙ ap (written_at out end) (sym first)
              ∙ R.leads;
          many = omega (arith, R.many, ap length first);
        }

-- THE END: no entry is left, or no room for one
pub rest_end : {out₀ out : List ℕ} {all es : List Entry} {end count : ℕ} → Rest out₀ out all es end count
    → (es ≡ []) ⊎ (length out - end < 3)
    → (count ≡ length (take (length out₀ / 3) all)) × (out ≡ written_over (take (length out₀ / 3) all) out₀)
rest_end {out₀} {out} {all} {es} {end} {count} R over =
    (omega (arith, R.many, ap length none), sym (take-append-drop end out) ∙ sym nothing ∙ R.leads)
  where
    none : fits out end es ≡ []
    none =
        ⊎_elim (λ e. rw e (take-nil ((length out - end) / 3)))
        (λ small. let n : (length out - end) / 3 ≡ 0 = omega arith in rw n) over

    nothing : written_at out end (fits out end es) ≡ take end out ++ drop end out
    nothing = ap (written_at out end) none ∙ ap (λ (n : ℕ). take end out ++ drop n out) {x = end + 3 * 0} {y = end} (omega arith)

-- GOING PAST n ENTRIES
pub skip_next : {n t : ℕ} {es es' : List Entry} {e : Entry} → t < n → es ≡ e ∷ es' → drop (n - t) es ≡ drop (n - (t + 1)) es'
skip_next {n} {t} {es} {es'} {e} more next =
    let s : n - t ≡ suc (n - (t + 1)) = omega arith in
    ap (λ (m : ℕ). drop m es) s ∙ ap (drop (suc (n - (t + 1)))) next

-- COMPARING: each entry passes the test, until one does not
module _ (p : Entry → Bool) {es : List Entry} where
  pub every_none : es ≡ [] → every p es ≡ true
  unfolding every
  every_none none = rw none

  module _ {es' : List Entry} {e : Entry} (next : es ≡ e ∷ es') where
    pub every_next : p e ≡ true → every p es ≡ every p es'
    unfolding every
    every_next passes = rw (next, passes)

    pub every_stop : p e ≡ false → every p es ≡ false
    unfolding every
    every_stop fails = rw (next, fails)

-- what the test says of an answer: the value is the one that is wanted, or there is none
pub is_in_value : {g : Got} {v : ℕ} (w : ℕ) → g ≡ got v → answers g w ≡ eqb v w
unfolding answers
is_in_value w found = rw found

pub is_in_missing : {g : Got} (w : ℕ) → g ≡ absent → answers g w ≡ false
unfolding answers
is_in_missing w missing = rw missing

-- the test of the entry that was read is that of the entry that its cell holds
pub in_same : (z : Shape) (a : List ℕ) (r : ℕ) {x e : Entry} {b t : Bool} → x ≡ e → t ≡ is_entry_in z a r x → t ≡ b → is_entry_in z a r e ≡ b
in_same z a r is test says = rw (← is) (sym test ∙ says)

pub agree_start : (z : Shape) (a : List ℕ) (r s : ℕ) {es : List Entry} → es ≡ met z a r → agree z a r s ≡ every (is_entry_in z a s) es
agree_start z a r s e = ap (every (is_entry_in z a s)) (sym e)

-- a listing: to the first entry, past those before the place, and then written
pub listed_whole : {all es fs : List Entry} (place : ℕ) (out : List ℕ) {n : ℕ} {out' : List ℕ} → es ≡ all → fs ≡ drop place es
    → (n ≡ length (take (length out / 3) fs)) × (out' ≡ written_over (take (length out / 3) fs) out)
    → (n ≡ length (written all place (length out))) × (out' ≡ written_over (written all place (length out)) out)
unfolding written
listed_whole place out e f (w, o) =
    let q = ap (λ xs. take (length out / 3) xs) (f ∙ ap (λ xs. drop place xs) e) in
    (w ∙ ap (λ xs. length xs) q, o ∙ ap (λ xs. written_over xs out) q)
