-- What a listing writes, word by word. Document 01: "Listing from a place writes hash, key, value for each entry while three
-- words of room remain, and answers how many. .. The remaining room is left."
use Prim.Native.Nat.{ℕ, zero, suc, ◌+◌, ◌-◌, ◌*◌, ◌/◌, ◌≤◌, ◌<◌, min}
use mathlib.Core.Path.{◌≡◌, refl, ap, ◌∙◌}
use mathlib.Core.List.{List, [], ◌∷◌, ◌++◌}
use native.Mathlib.Nat.{not-suc-le-zero, le_of_suc-le-suc}
use native.Mathlib.Omega.{arith}
use lib.ListN.{length, get_or, take, drop, length-append, length-take, length-drop, get_or-append}
use lib.Seq.{take_all, get_or-append-add, get_or-take, get_or-drop, drop-drop}
use Rattle.trie.specs.declared.Entry.{Entry}
use Rattle.reads.specs.Listed.{entry_words, written, written_over}

-- WHICH ENTRIES ARE WRITTEN. As many as the room has threes, or as there are from the place on if these are fewer
pub written_count : (es : List Entry) (place room : ℕ) → length (written es place room) ≡ min (room / 3) (length es - place)
unfolding written
written_count es place room = length-take (room / 3) (drop place es) ∙ ap (min (room / 3)) (length-drop place es)

-- three words for each are no more than the room
pub written_fits : (es : List Entry) (place room : ℕ) → 3 * length (written es place room) ≤ room
written_fits es place room = omega (arith, written_count es place room)

-- entry j that is written is entry place + j of the listing
pub written_entry : (es : List Entry) (place room j : ℕ) (d : Entry) → j < length (written es place room)
    → get_or (written es place room) j d ≡ get_or es (place + j) d
unfolding written
written_entry es place room j d h =
    get_or-take (room / 3) (drop place es) j d (omega (arith, length-take (room / 3) (drop place es))) ∙ get_or-drop place es j d

-- with room for all of them, a listing from the start writes them all
pub written_whole : (es : List Entry) (room : ℕ) → 3 * length es ≤ room → written es 0 room ≡ es
unfolding written
written_whole es room h = take_all (room / 3) es (omega arith)

-- what is taken, and then what is left past as many
take_on : (n : ℕ) (es : List Entry) → take n es ++ drop (length (take n es)) es ≡ es
take_on zero es = refl
take_on (suc n) [] = refl
take_on (suc n) (e ∷ es) = ap (λ (r : List Entry). e ∷ r) (take_on n es)

-- the next listing goes on where this one ended
pub written_on : (es : List Entry) (place room : ℕ)
    → written es place room ++ drop (place + length (written es place room)) es ≡ drop place es
unfolding written
written_on es place room =
    rw (← (drop-drop (length (take (room / 3) (drop place es))) place es)) (take_on (room / 3) (drop place es))

-- THE WORDS OF ENTRIES: three for each
pub words_long : (es : List Entry) → length (entry_words es) ≡ 3 * length es
words_long [] = refl
words_long (e ∷ es) = omega (arith, words_long es)

-- word 3 j + i is word i of entry j, whatever comes after
words_at : (es : List Entry) (rest : List ℕ) (j i : ℕ) (d : Entry) → j < length es → i < 3
    → get_or (entry_words es ++ rest) (3 * j + i) 0 ≡ get_or (entry_words (get_or es j d ∷ [])) i 0
words_at [] rest j i d h k = absurd (not-suc-le-zero h)
words_at (e ∷ es) rest zero i d h k =
    let at : 3 * 0 + i ≡ i = omega arith in
    rw at (get_or-append (entry_words (e ∷ [])) (entry_words es ++ rest) 0 i k)
words_at (e ∷ es) rest (suc j) i d h k =
    let at : 3 * suc j + i ≡ 3 + (3 * j + i) = omega arith in
    ap (λ (n : ℕ). get_or (entry_words (e ∷ es) ++ rest) n 0) at
    ∙ get_or-append-add (entry_words (e ∷ [])) (entry_words es ++ rest) (3 * j + i) 0
    ∙ words_at es rest j i d (le_of_suc-le-suc h) k

-- THE OUTPUT AFTERWARDS is as long as it was
pub over_long : (es : List Entry) (out : List ℕ) → 3 * length es ≤ length out → length (written_over es out) ≡ length out
unfolding written_over
over_long es out h =
    let rest : List ℕ = drop (3 * length es) out in
    omega (arith, length-append (entry_words es) rest, words_long es, length-drop (3 * length es) out)

-- hash, key, value of entry j stand at 3 j, 3 j + 1 and 3 j + 2
pub over_words : (es : List Entry) (out : List ℕ) (j : ℕ) (d : Entry) → j < length es
    → (get_or (written_over es out) (3 * j) 0 ≡ (get_or es j d).hash)
    × (get_or (written_over es out) (3 * j + 1) 0 ≡ (get_or es j d).key)
    × (get_or (written_over es out) (3 * j + 2) 0 ≡ (get_or es j d).value)
unfolding written_over
over_words es out j d h =
    let rest : List ℕ = drop (3 * length es) out in
    let first : 3 * j ≡ 3 * j + 0 = omega arith in (
      ap (λ (n : ℕ). get_or (entry_words es ++ rest) n 0) first ∙ words_at es rest j 0 d h (omega arith),
      words_at es rest j 1 d h (omega arith),
      words_at es rest j 2 d h (omega arith),
    )

-- the remaining room is left
pub over_rest : (es : List Entry) (out : List ℕ) (i : ℕ) → 3 * length es ≤ i → get_or (written_over es out) i 0 ≡ get_or out i 0
unfolding written_over
over_rest es out i h =
    let n : ℕ = 3 * length es in
    let past : i ≡ length (entry_words es) + (i - n) = omega (arith, words_long es) in
    let back : n + (i - n) ≡ i = omega arith in
    ap (λ (k : ℕ). get_or (entry_words es ++ drop n out) k 0) past
    ∙ get_or-append-add (entry_words es) (drop n out) (i - n) 0
    ∙ get_or-drop n out (i - n) 0
    ∙ ap (λ (k : ℕ). get_or out k 0) back
