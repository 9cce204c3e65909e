-- THE GUARD. Until edition e is ended, by a drop of it or by a format, no call of whatever kind alters what is found in it or listed
-- of it: slot e holds the same named trie.
use Prim.Native.Nat.{ℕ}
use mathlib.Core.Path.{◌≡◌, sym, ap, ◌∙◌, subst}
use mathlib.Core.List.{List}
use native.Mathlib.Omega.{arith}
use Rattle.trie.specs.Trie.{Map}
use Rattle.tags.specs.Tags.{Odd, key1}
use Rattle.layout.specs.declared.Shape.{Shape}
use Rattle.layout.specs.Header.{Header}
use Rattle.layout.specs.Columns.{columns}
use Rattle.arena.specs.Sound.{Sound}
use Rattle.arena.specs.Holds.{Holds, Shelves}
use Rattle.arena.proofs.Equivalent.{held_slot_lem}
use Rattle.arena.proofs.Shelved.{slots_in, held_Shelves}
use Rattle.cells.proofs.KeptLaws.{Kept-Header}
use Rattle.replies.specs.declared.Refusal.TheVariants as Why
use Rattle.replies.specs.Answers.{Answer, answer, refused, number_answer, cell_counts}
use Rattle.replies.specs.Outcomes.{Outcome, leaves}
use Rattle.replies.proofs.AnswerLaws.{refused_not_done}
use Rattle.replies.proofs.Tables.{Held, HeaderNumbered, by_Held}
use Rattle.looks.specs.Terms.{Sizes, Gets, Lists}
use Rattle.looks.proofs.NumberLaws.{size_numbered, get_numbered, list_numbered}
use Rattle.promises.specs.History.{Call, drops, Meets, Calls, no_call, then, History, Ends, by_format, by_drop, Spared}
use Rattle.promises.proofs.HistoryLaws.{Meets-Sound, Calls-Sound, History-Sound}
use Rattle.promises.proofs.WriteLaws.{Writes, left, formatted, made, shared, updated, dropped, writes}
use Rattle.promises.proofs.AnyLaws.{inside_by}
use Rattle.replies.proofs.AnswerLaws.{number_once}
use Rattle.std.specs.Prelude.{Result, Ok, Err}
use Rattle.replies.specs.declared.Refusal.{Refusal}
use Rattle.replies.specs.declared.CellCounts.{CellCounts}

written_stays : (e : ℕ) {a b : List ℕ} {c : Call} → Writes a b c → Sound a → (Ends e c → ⊥) → (z : Shape) → Header a z
    → (m : Map ℕ) → Holds z a e m → Holds z b e m
written_stays e (left c q) S goes z H m E = rw q E
written_stays e (formatted g n k s w) S goes z H m E = absurd (goes (by_format g n k s))
written_stays e (made r w) S goes z H m E = w.kept z H e m E
written_stays e (shared i r w) S goes z H m E = w.kept z H e m E
written_stays e (updated c i step o r w) S goes z H m E = w.kept S z H e m E
written_stays e (dropped i x y w) S goes z H m E =
    w.kept S z H e m (λ q. goes (subst (λ (j : ℕ). Ends e (drops j (cell_counts x y))) q (by_drop x y))) E

-- a call that does not end edition e leaves in slot e the same named trie
pub kept_by : (e : ℕ) (c : Call) (a b : List ℕ) → Sound a → Meets c a b → (Ends e c → ⊥) → (z : Shape) → Header a z
    → (m : Map ℕ) → Holds z a e m → Holds z b e m
kept_by e c a b S w = written_stays e (writes c a b w) S

-- and so do calls of which none ends it, and the arena has the shape that it had
pub kept_through : (e : ℕ) {a b : List ℕ} {cs : List Call} → Sound a → Calls a cs b → Spared e cs → (z : Shape) → Header a z
    → Header b z × ((m : Map ℕ) → Holds z a e m → Holds z b e m)
unfolding Spared
kept_through e S (no_call a) spared z H = (H, λ m E. E)
kept_through e S (then a b d c cs w ws) spared z H =
    let (L, on) = kept_through e (Meets-Sound c a b w S) ws spared.1 z (Kept-Header (inside_by e c w spared.0 z H) H) in
    (L, λ m E. on m (kept_by e c a b S w spared.0 z H m E))

-- an edition that is not held is refused with 5; any other answer is of a map
not_held : {a b : List ℕ} {When : Shape → ℕ → Type 0} {o : Outcome} → HeaderNumbered a b When o → (z : Shape) → Header a z
    → When z 5 → o.answer ≡ refused Why.NoSuchEdition
not_held N z H w =
    let q = (N.exactly z H 5).1 w in
    let u = N.refusal (λ e. omega arith) in
    λ i. answer (q i) (u.1 i) (u.2 i) (u.3 i)

module _ {a b : List ℕ} {cs : List Call} (past : History a) (calls : Calls a cs b) (e : ℕ) (spared : Spared e cs) where
  -- an edition that is held before and after, at the shape of the header
  record Stayed : Type 0 where
    pub shape : Shape
    pub before : Header a shape
    pub after : Header b shape
    pub map : Map ℕ
    pub was : Shelves shape a e map
    pub is : Shelves shape b e map

  stayed : {o : List ℕ} {x : Outcome} {When : Shape → ℕ → Type 0} → HeaderNumbered a o When x
      → ((z : Shape) → (Held z a e → ⊥) → When z 5) → (x.answer ≡ refused Why.NoSuchEdition → ⊥) → Stayed
  stayed N row_5 other =
      let S = History-Sound past in
      let z = S.shape in
      let H = S.header in
      let h : Held z a e = by_Held z a e (λ q w. w) (λ q n. absurd (other (not_held N z H (row_5 z n)))) in
      let w = held_slot_lem z (columns z a) e h.1 (slots_in a S z H e h.0) in
      let (K, keeps) = kept_through e S calls spared z H in
      record {
        shape = z;
        before = H;
        after = K;
        map = w.map;
        was = record { holds = w.edition; built = w.built };
        is = held_Shelves b (Calls-Sound calls S) z K e w.map (keeps w.map w.edition);
      }

  get_again : (h k : ℕ) (p : Result ℕ Refusal) → (number_answer p ≡ refused Why.NoSuchEdition → ⊥) → Gets a e h k p → (r : Result ℕ Refusal) → Gets b e h k r → r ≡ p
  get_again h k p other g r g' =
      let T = stayed (get_numbered a e h k) (λ z n. n) (λ q. other (g.result ∙ q)) in
      number_once r p
      (g'.shown T.shape T.after T.map T.is.holds ∙ sym (g.shown T.shape T.before T.map T.was.holds))

  -- the guard: what edition e held is found in e with the same value
  pub found_again : (h k v : ℕ) → Gets a e h k (Ok v) → (r : Result ℕ Refusal) → Gets b e h k r → r ≡ Ok v
  found_again h k v = get_again h k (Ok v) (λ q. refused_not_done Why.NoSuchEdition v 0 (sym q))

  pub Absent-again : (h k : ℕ) → Gets a e h k (Err Why.Absent) → (r : Result ℕ Refusal) → Gets b e h k r → r ≡ Err Why.Absent
  Absent-again h k = get_again h k (Err Why.Absent) (λ q. omega (arith, ap (λ (x : Answer). x.number) q))

  -- and its listing is the same, from any place and into any output
  pub listed_again : (place : ℕ) (out out' out₂ : List ℕ) (r r₂ : Result ℕ Refusal) → Lists a e place out r out'
      → (r ≡ Err Why.NoSuchEdition → ⊥) → Lists b e place out r₂ out₂ → (r₂ ≡ r) × (out₂ ≡ out')
  listed_again place out out' out₂ r r₂ l other l' =
      let T =
      stayed (list_numbered a e place out) (λ z n. n)
      (λ q. other (number_once r (Err Why.NoSuchEdition) (ap (λ (o : Outcome). o.answer) l.outcome ∙ q))) in
      let same : leaves (number_answer r₂) out₂ ≡ leaves (number_answer r) out'
      = l'.shown T.shape T.after T.map T.is ∙ sym (l.shown T.shape T.before T.map T.was) in
      (number_once r₂ r (ap (λ (o : Outcome). o.answer) same), ap (λ (o : Outcome). o.words) same)

  pub size_again : (n : ℕ) → Sizes a e (Ok n) → (r : Result ℕ Refusal) → Sizes b e r → r ≡ Ok n
  size_again n s r s' =
      let T = stayed (size_numbered a e) (λ z h. h) (λ q. refused_not_done Why.NoSuchEdition n 0 (sym (s.result ∙ q))) in
      s'.shown T.shape T.after T.map T.is.holds ∙ sym (s.shown T.shape T.before T.map T.was.holds)

  -- NO PRIVATE ELEMENT IS LOST: the guard for the elements of odd groups, under key rule 1
  pub private_elements_stay : (group element : ℕ) → Odd group → (h v : ℕ) → Gets a e h (key1 group element) (Ok v)
      → (r : Result ℕ Refusal) → Gets b e h (key1 group element) r → r ≡ Ok v
  private_elements_stay group element odd h v = found_again h (key1 group element) v
