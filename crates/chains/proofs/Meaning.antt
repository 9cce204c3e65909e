-- What a push and a removal come to on an arena in the local form: a chain with the new entry in front, where there is one, then
-- copies of the entries that are to stay, then the chain that is shared. The chain is made from its front: each entry is filled
-- with nothing behind it, and what stands behind it is put in later. So all the time the last new entry lives and holds nothing,
-- and the front is in hand.
use Prim.Native.Nat.{ℕ, zero, suc, ◌+◌, ◌-◌, ◌≤◌, ◌<◌}
use mathlib.Core.Path.{◌≡◌, sym, ap, ◌∙◌, subst}
use mathlib.Core.Bool.{true}
use mathlib.Core.List.{[], List, ◌∷◌, ◌++◌}
use mathlib.Core.Logic.{⊎_elim}
use native.Mathlib.Nat.{suc-add}
use native.Mathlib.Omega.{arith}
use lib.ListN.{length, get_or, length-append}
use Rattle.cases.proofs.Cases.{eq?}
use Rattle.counts.specs.Counts.{ind}
use Rattle.counts.proofs.CountLaws.{place_other}
use Rattle.trie.specs.declared.Entry.{Entry}
use Rattle.trie.specs.Trie.{Item, item}
use Rattle.layout.specs.declared.Shape.{Shape}
use Rattle.layout.specs.Layout.{reference, cell_of, Lent}
use Rattle.layout.specs.Columns.{State, columns}
use Rattle.layout.proofs.OffsetLaws.{names_low}
use Rattle.arena.specs.Shows.{ShowsChain}
use Rattle.arena.specs.Local.{Local, Grow}
use Rattle.arena.proofs.RefLaws.{refs_some}
use Rattle.arena.proofs.LocalLaws.{rehand, refree, live_cell, live_some}
use Rattle.arena.proofs.Frames.{Grow-refl, Grow-trans, slots_trans, chain_kept}
use Rattle.arena.proofs.Steps.{Grow-put_in}
use Rattle.lookup.specs.Lookup.{names_kind}
use Rattle.lookup.proofs.FindLaws.{kind_is}
use Rattle.cells.specs.Frame.{Kept}
use Rattle.cells.specs.Mirrors.{Wrote, wrote, put_in_words}
use Rattle.cells.proofs.KeptLaws.{kept_trans, Kept-Lent, put_in_Kept}
use Rattle.cells.proofs.StepColumns.{share_none}
use Rattle.cells.proofs.Meaning.{PutIn, PutIn-means}
use Rattle.cells.proofs.Made.{left, taking, Made, then_on, none_taken}
use Rattle.trie.proofs.CopyLaws.{copies, copies_length}
use Rattle.chains.specs.Chains.{entry_made, entry_copied, copied_on, closed, front_pushed, taken_from}
use Rattle.chains.proofs.StepLaws.{standing, take_is}
use Rattle.chains.proofs.Making.{chain_first, chain_entry, Open, Closed, last_ref, copy_is}
use Rattle.chains.proofs.SharedLaws.{close_means, take_behind}
use Rattle.chains.proofs.NewEntry.{Last, Fresh, Last-shows, entry_made_means, Fresh-ref}

-- what lives in ρ lives in what ρ grew to, so what does not live there did not live in ρ
new_before : {ρ σ : State} (c : ℕ) → Grow ρ σ → σ.count c ≡ 0 → ρ.count c ≡ 0
new_before {ρ} c g e = ⊎_elim (λ o. o) (λ nz. absurd (omega (arith, g.live c (omega arith)))) (eq? (ρ.count c) 0)

-- ONE COPY MORE, put behind the last entry
module _ {z : Shape} {ρ : State} {free : ℕ → List ℕ} {j first l : ℕ} {e d : Entry} {c k : ℕ} {w : List ℕ} {s : Wrote}
    (O : Open z ρ free j first (suc l) e c w) (F : Fresh z w (λ r. ind r first) (left (taking 1 (suc j)) free) l d k s) where
  abbrev linked_words : List ℕ
  linked_words = put_in_words z s.words c 0 s.at

  linked : PutIn z c 0 s.at (columns z s.words) (columns z linked_words) (λ r. ind r first) (left (taking 1 (suc j)) free)
  linked =
      let L = O.last in
      let g = F.grow in
      PutIn-means (λ r. ind r first) c 0 s.at (Kept-Lent F.kept O.lent) (last_ref O) (g.live c L.live)
      (ap (λ (f : ℕ → ℕ). f 0) (g.kid_eq c L.live) ∙ L.bare)
      (λ nz. (
        λ x y. absurd (omega (arith, L.kind)),
        λ x. (F.last.kind, omega (arith, g.mark_eq c L.live, L.mark_is, F.last.mark_is)),
      ))
      F.local

  linked_Last : Last ρ (columns z linked_words) l d s.at
  linked_Last =
      let L = F.last in
      let g = linked.over (Grow-refl (columns z s.words)) in
      let ne : s.at ≡ c → ⊥ = λ y. omega (arith, L.new, O.last.live, ap (columns z w).count y) in
      record {
        new = new_before s.at O.grow L.new;
        live = g.live s.at L.live;
        kind = L.kind;
        mark_is = g.mark_eq s.at L.live ∙ L.mark_is;
        bare =
            ap (λ (f : ℕ → ℕ). f 0)
            (g.kid_eq s.at L.live ∙ place_other (columns z s.words).kid c 0 s.at s.at ne)
            ∙ L.bare;
        plain_is = g.plain_eq s.at L.live ∙ L.plain_is;
      }

  linked_Kept : Kept z w linked_words
  linked_Kept = kept_trans F.kept (put_in_Kept z s.words c 0 s.at (last_ref O))

  linked_Open : Open z ρ free (suc j) first l d s.at linked_words
  linked_Open =
      record {
        lent = Kept-Lent linked_Kept O.lent;
        local = linked.local;
        grow = linked.grow (Grow-trans O.grow F.grow) O.last.new;
        last = linked_Last;
      }

  -- and once what stands behind it is there, it stands behind the last entry
  linked_Closed : {m : ℕ} {t : Wrote} (i : ℕ) (xs : List (Item ℕ)) → s.at ≡ reference 1 i → length xs ≡ l
      → Closed z free m first s.at xs linked_words t → Closed z free m first c (item i d ∷ xs) w t
  linked_Closed i xs at len C =
      record {
        next = s.at;
        at_is = C.at_is;
        kept = kept_trans linked_Kept C.kept;
        local = C.local;
        grow = Grow-trans (Grow-put_in s.at 0 C.next (linked.over F.grow) F.last.new) C.grow;
        slots = slots_trans (slots_trans F.slots linked.slots) C.slots;
        shows = Last-shows i C.next xs linked_Last at len C.grow C.shows;
      }

-- COPIES
-- the copy of an entry of a chain, with one entry fewer behind it
copy_Fresh : {z : Shape} {a : List ℕ} {H : ℕ → ℕ} (free : ℕ → List ℕ) (j l r : ℕ) (x : Item ℕ) (xs : List (Item ℕ))
    → Lent z a → j < length (free 1) → Local z (columns z a) H (left (taking 1 j) free)
    → ShowsChain (columns z a) (x ∷ xs) r → length xs ≡ suc l
    → Fresh z a H (left (taking 1 (suc j)) free) l x.entry (get_or (free 1) j 0) (entry_copied z a r)
copy_Fresh {z} {a} free j l r x xs lent some I h len =
    let σ = columns z a in
    let mark : σ.mark r - 1 ≡ suc l = omega (arith, (chain_first σ x xs r h).2) in
    rw (mark, chain_entry σ x xs r h) (entry_made_means free j l x.entry lent some I)

-- copies of the entries es behind the last entry, and ys behind them
module _ (z : Shape) (ρ : State) (free : ℕ → List ℕ) (f : ℕ → ℕ) (m first q : ℕ) (ys : List (Item ℕ)) (fits : m ≤ length (free 1))
    (named : (u : ℕ) → u < m → f u ≡ cell_of (get_or (free 1) u 0)) (shown : ShowsChain ρ ys q) where
  -- the copies from r on make the chain that is to stand behind the last entry c
  abbrev Copied : (n j c r : ℕ) (w : List ℕ) (es : List (Item ℕ)) → Type 0
  Copied n j c r w es = Closed z free m first c (copies f j es ++ ys) w (closed z first q (copied_on z n c r w))

  copy_step : {e : Entry} (n j c r : ℕ) (w : List ℕ) (x : Item ℕ) (es more : List (Item ℕ))
      → Open z ρ free j first (suc (n + length ys)) e c w
      → ShowsChain ρ (x ∷ (es ++ more)) r
      → length es ≡ n → length more ≡ suc (length ys) → j < m
      → ((d p : ℕ) (v : List ℕ) → Open z ρ free (suc j) first (n + length ys) x.entry d v → ShowsChain ρ (es ++ more) p
      → Copied n (suc j) d p v es)
      → Copied (suc n) j c r w (x ∷ es)
  unfolding copies
  copy_step n j c r w x es more O h len rest lj ih =
      let σ = columns z w in
      let g = O.grow in
      let C = chain_first ρ x (es ++ more) r h in
      let y : names_kind z 1 r ≡ true = kind_is z 1 r (refs_some z r (live_cell O.local r (g.live r C.0))) C.1 in
      let F = copy_Fresh free j (n + length ys) r x (es ++ more) O.lent (omega arith) O.local
      (chain_kept g (x ∷ (es ++ more)) r h) (omega (arith, length-append es more)) in
      let s = entry_copied z w r in
      let go : ShowsChain ρ (es ++ more) (σ.kid r 0)
      = subst (λ (p : ℕ). ShowsChain ρ (es ++ more) p) (ap (λ (k : ℕ → ℕ). k 0) (sym (g.kid_eq r C.0))) C.3 in
      rw (copy_is z n c r w y (live_some F.local s.at F.last.live))
      (linked_Closed O F (f j) (copies f (suc j) es ++ ys) (Fresh-ref (f j) F (named j lj))
      (omega (arith, length-append (copies f (suc j) es) ys, copies_length f (suc j) es))
      (ih s.at (σ.kid r 0) _ (linked_Open O F) go))

  copy_on_means : (n j c r : ℕ) (w : List ℕ) (es more : List (Item ℕ)) (e : Entry)
      → Open z ρ free j first (n + length ys) e c w
      → ShowsChain ρ (es ++ more) r
      → length es ≡ n → (0 < n → length more ≡ suc (length ys)) → j + n ≡ m
      → Copied n j c r w es
  unfolding copies copied_on
  copy_on_means zero j c r w [] more e O h len rest all =
      let here : m ≡ j = omega arith in
      rw here (close_means q ys O shown (omega arith))
  copy_on_means zero j c r w (x ∷ es) more e O h len rest all = absurd (omega arith)
  copy_on_means (suc n) j c r w [] more e O h len rest all = absurd (omega arith)
  copy_on_means (suc n) j c r w (x ∷ es) more e O h len rest all =
      copy_step n j c r w x es more (rw (suc-add n (length ys)) at O) h (omega arith) (rest (omega arith)) (omega arith)
      (λ d p v Q k. copy_on_means n (suc j) d p v es more x.entry Q k (omega arith) (λ l. rest (omega arith)) (omega arith))

-- A NEW ENTRY AND WHAT STANDS BEHIND IT: the new entry is the front and the last entry at first
first_Open : {z : Shape} {a : List ℕ} {free : ℕ → List ℕ} {l : ℕ} {e : Entry} {c : ℕ} {s : Wrote}
    → Lent z a → Fresh z a (λ r. 0) (left (taking 1 1) free) l e c s → Open z (columns z a) free 1 s.at l e s.at s.words
first_Open {s = s} lent F =
    record {
      lent = Kept-Lent F.kept lent;
      local = rehand (λ r. ind r s.at) (λ r nz. omega arith) F.local;
      grow = F.grow;
      last = F.last;
    }

-- and the front of what is made in the end
Closed-Made : {z : Shape} {a : List ℕ} {free : ℕ → List ℕ} {l m : ℕ} {e : Entry} {c : ℕ} {s t : Wrote} (i : ℕ) (xs : List (Item ℕ))
    → Fresh z a (λ r. 0) (left (taking 1 1) free) l e c s → i ≡ cell_of c → length xs ≡ l
    → Closed z free m s.at s.at xs s.words t
    → Made z a free (taking 1 m) t × ShowsChain (columns z t.words) (item i e ∷ xs) t.at
Closed-Made {s = s} i xs F name len C =
    rw C.at_is (
      record {
        some = live_some F.local s.at F.last.live;
        kept = kept_trans F.kept C.kept;
        local = C.local;
        grow = Grow-trans (Grow-put_in s.at 0 C.next F.grow F.last.new) C.grow;
        slots = slots_trans F.slots C.slots;
      },
      Last-shows i C.next xs F.last (Fresh-ref i F name) len C.grow C.shows,
    )

front_means : {z : Shape} {a : List ℕ} {free : ℕ → List ℕ} {e : Entry} (s : Wrote) → Lent z a
    → (n r q : ℕ) (es more ys : List (Item ℕ)) (f : ℕ → ℕ)
    → Fresh z a (λ r. 0) (left (taking 1 1) free) (n + length ys) e (get_or (free 1) 0 0) s
    → ShowsChain (columns z a) (es ++ more) r → length es ≡ n → (0 < n → length more ≡ suc (length ys))
    → ShowsChain (columns z a) ys q → n < length (free 1)
    → ((u : ℕ) → u ≤ n → f u ≡ cell_of (get_or (free 1) u 0))
    → Made z a free (taking 1 (suc n)) (standing z n r q s)
    × ShowsChain (columns z (standing z n r q s).words) (item (f 0) e ∷ (copies f 1 es ++ ys)) (standing z n r q s).at
front_means {z} {a} {free} {e} s lent n r q es more ys f F h len rest shown some named =
    let C = copy_on_means z (columns z a) free f (suc n) s.at q ys (omega arith) (λ u lu. named u (omega arith)) shown
    n 1 s.at r s.words es more e (first_Open lent F) h len rest (omega arith) in
    rw (then_on s (λ c w. closed z c q (copied_on z n c r w)) (live_some F.local s.at F.last.live))
    (Closed-Made (f 0) (copies f 1 es ++ ys) F (named 0 (omega arith))
    (omega (arith, length-append (copies f 1 es) ys, copies_length f 1 es)) C)

-- PUSH
pub push_means : {z : Shape} {a : List ℕ} {free : ℕ → List ℕ} → Lent z a → Local z (columns z a) (λ r. 0) free
    → (e : Entry) (l n r q : ℕ) (es more ys : List (Item ℕ)) (f : ℕ → ℕ)
    → ShowsChain (columns z a) (es ++ more) r → length es ≡ n → (0 < n → length more ≡ suc (length ys))
    → ShowsChain (columns z a) ys q → l ≡ suc (n + length ys) → n < length (free 1)
    → ((u : ℕ) → u ≤ n → f u ≡ cell_of (get_or (free 1) u 0))
    → Made z a free (taking 1 (suc n)) (front_pushed z a l e n r q)
    × ShowsChain (columns z (front_pushed z a l e n r q).words) (item (f 0) e ∷ (copies f 1 es ++ ys)) (front_pushed z a l e n r q).at
unfolding front_pushed
push_means {z} {a} {free} lent I e l n r q es more ys f h len rest shown long some named =
    rw long
    (front_means (entry_made z a (suc (n + length ys)) e) lent n r q es more ys f
    (entry_made_means free 0 (n + length ys) e lent (omega arith) (refree (none_taken free 1) I)) h len rest shown some named)

-- TAKE FROM: nothing is left of the chain, and nothing is written
pub take_none : (z : Shape) (a : List ℕ) (r : ℕ) → taken_from z 0 r 0 a ≡ wrote 0 a
unfolding taken_from
take_none z a r = rw (share_none z a 0 (names_low z 0 (omega arith)))

-- what is left of a chain of which es stood before the removed entry, and ys behind it: copies of es, and ys
pub take_means : {z : Shape} {a : List ℕ} {free : ℕ → List ℕ} → Lent z a → Local z (columns z a) (λ r. 0) free
    → (n r q : ℕ) (es more ys : List (Item ℕ)) (f : ℕ → ℕ)
    → ShowsChain (columns z a) (es ++ more) r → length es ≡ n → length more ≡ suc (length ys)
    → ShowsChain (columns z a) ys q → n ≤ length (free 1)
    → ((u : ℕ) → u < n → f u ≡ cell_of (get_or (free 1) u 0))
    → 0 < length es + length ys
    → Made z a free (taking 1 n) (taken_from z n r q a)
    × ShowsChain (columns z (taken_from z n r q a).words) (copies f 0 es ++ ys) (taken_from z n r q a).at
unfolding copies
take_means lent I zero r q [] more ys f h len rest shown fits named some = take_behind lent I r q ys shown (omega arith)
take_means lent I zero r q (x ∷ es) more ys f h len rest shown fits named some = absurd (omega arith)
take_means lent I (suc n) r q [] more ys f h len rest shown fits named some = absurd (omega arith)
take_means {z} {a} {free} lent I (suc n) r q (x ∷ es) more ys f h len rest shown fits named some =
    let C = chain_first (columns z a) x (es ++ more) r h in
    rw (take_is z r q a n (kind_is z 1 r (refs_some z r (live_cell I r C.0)) C.1))
    (front_means (entry_copied z a r) lent n ((columns z a).kid r 0) q es more ys f
    (copy_Fresh free 0 (n + length ys) r x (es ++ more) lent (omega arith) (refree (none_taken free 1) I) h
    (omega (arith, length-append es more)))
    C.3 (omega arith) (λ l. rest) shown (omega arith) (λ u lu. named u (omega arith)))
