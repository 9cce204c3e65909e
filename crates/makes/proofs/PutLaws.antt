-- A map that the arena shows is put in a free slot: its root is named once more, and the slot gets its three words. Every
-- edition that was held is held as it was, since no cell loses a word and no other slot is written; and a sound arena stays
-- sound, since the root's count rises by the one slot that names it now.
use Rattle.std.proofs.Common.{◌≡◌, ℕ, ◌+◌, ◌-◌, ◌^◌, ◌<◌, List, sym, ap, ◌∙◌, subst, ⊎_elim, arith}
use Rattle.cases.proofs.Cases.{split, lt?}
use Rattle.counts.proofs.CountLaws.{upd_at}
use Rattle.segments.specs.Segments.{segment}
use Rattle.trie.specs.Trie.{Map, size}
use Rattle.trie.specs.Names.{forget}
use Rattle.trie.specs.Built.{Built}
use Rattle.layout.specs.declared.Shape.{Shape}
use Rattle.layout.specs.Layout.{names, Lent}
use Rattle.layout.specs.Header.{Header}
use Rattle.layout.specs.Columns.{State, columns, set_slot, set_slot_words}
use Rattle.layout.proofs.ColumnLaws.{slot_store}
use Rattle.layout.proofs.HeaderLaws.{Header-Lent}
use Rattle.arena.specs.Shows.{ShowsMap, Edition}
use Rattle.arena.specs.Sound.{Sound}
use Rattle.arena.specs.Local.{Grow, SameSlots}
use Rattle.arena.proofs.Frames.{Grow-refl, Grow-trans, slots_refl, map_live, map_kept, SameSlot, slots_at, slot_trans}
use Rattle.arena.proofs.Steps.{Grow-count, Grow-slot, same_count, slot_other}
use Rattle.arena.proofs.Shelved.{Local-in}
use Rattle.arena.proofs.Puts.{Beside, beside_keeps, beside_Sound}
use Rattle.cells.specs.Mirrors.{share_words}
use Rattle.cells.proofs.KeptLaws.{kept_trans, Kept-Lent, Kept-Header, share_Kept, slots_kept}
use Rattle.cells.proofs.StepColumns.{share_none, share_columns, share_full}
use Rattle.cells.proofs.Meaning.{share_means, hold_means}

-- SHARE, on any words: nothing is lost
record Shared (σ τ : State) : Type 0 where
  pub grow : Grow σ τ
  pub slots : SameSlots σ τ

shared_same : (σ τ : State) → τ ≡ σ → Shared σ τ
shared_same σ τ e = rw e (record { grow = Grow-refl σ; slots = slots_refl σ })

shared : (z : Shape) (a : List ℕ) (r : ℕ) → Lent z a → Shared (columns z a) (columns z (share_words z a r))
shared z a r l =
    let σ = columns z a in
    split (names z r)
    (λ n.
    ⊎_elim
    (λ room.
    rw (share_columns z a r l n room)
    (record { grow = Grow-count σ r (σ.count r + 1) (omega arith); slots = same_count σ r (σ.count r + 1) }))
    (λ full. shared_same σ _ (ap (columns z) (share_full z a r n full)))
    (lt? (σ.count r) (2 ^ 64 - 1)))
    (λ n. shared_same σ _ (ap (columns z) (share_none z a r n)))

-- PUT
module _ (z : Shape) (a : List ℕ) (h : Header a z) (s r n : ℕ) (ls : s < z.slots) (fr : (columns z a).held s ≡ 1 → ⊥) where
  abbrev c : List ℕ
  c = share_words z a r

  abbrev b : List ℕ
  b = set_slot_words z c s 1 r n

  lent : Lent z a
  lent = Header-Lent a z h

  Lent-c : Lent z c
  Lent-c = Kept-Lent (share_Kept z a r) lent

  after : columns z b ≡ set_slot (columns z c) s 1 r n
  after = slot_store z c Lent-c.long lent.allowed.wide s 1 r n ls

  grown : Grow (columns z a) (columns z b)
  grown = Grow-trans (shared z a r lent).grow (rw after (Grow-slot (columns z c) s 1 r n))

  others : (e : ℕ) → (e ≡ s → ⊥) → SameSlot (columns z a) (columns z b) e
  others e ne = slot_trans (slots_at (shared z a r lent).slots e) (rw after (slot_other (columns z c) s 1 r n e ne))

  pub put_Header : Header b z
  put_Header = Kept-Header (kept_trans (share_Kept z a r) (slots_kept z c s 1 r n lent.allowed.wide ls)) h

  put_Beside : Beside z a b s
  put_Beside = record { before = h; after = put_Header; away = fr; grow = grown; others = others }

  -- every other edition is the same named trie
  pub put_kept : (e : ℕ) (m : Map ℕ) → Edition z (columns z a) e m → Edition z (columns z b) e m
  put_kept = beside_keeps put_Beside

  -- and the slot holds the map
  module _ (m : Map ℕ) (sh : ShowsMap (columns z a) m r) (sz : n ≡ size m) where
    pub put_new : Edition z (columns z b) s m
    put_new =
        record {
          slot = ls;
          held = ap (λ (τ : State). τ.held s) after ∙ upd_at (columns z c).held s 1;
          shows =
              subst (λ (x : ℕ). ShowsMap (columns z b) m x)
              (sym (ap (λ (τ : State). τ.root s) after ∙ upd_at (columns z c).root s r)) (map_kept grown m r sh);
          sized = ap (λ (τ : State). τ.size s) after ∙ upd_at (columns z c).size s n ∙ sz;
        }

    -- SOUND STAYS SOUND
    pub put_Sound : Built (segment z.bits) z.depths (forget m) → Sound a → Sound b
    put_Sound bt S =
        let G = share_means r lent (map_live (columns z a) m r sh) (omega arith) (Local-in a S z h).1 in
        let T = hold_means (λ x. 0) s r n Lent-c ls (λ x. fr (sym (slots_at G.slots s).held_eq ∙ x)) G.local in
        beside_Sound put_Beside (record { holds = put_new; built = bt }) T.local S
