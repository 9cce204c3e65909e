-- What size and in use answer: the words that their definitions name, which on an edition are its map's size and on a sound arena
-- the cells that are reached.
use Rattle.std.proofs.Common.{◌≡◌, ℕ, true, false, List, Ok, Err, Result, ap, ◌∙◌}
use Rattle.trie.specs.Trie.{size}
use Rattle.layout.specs.declared.Shape.{Shape}
use Rattle.layout.specs.Header.{header_of}
use Rattle.layout.proofs.HeaderLaws.{Header-says}
use Rattle.cells.specs.Slots.{held_slot}
use Rattle.cells.proofs.SlotLaws.{held_is}
use Rattle.replies.specs.declared.Refusal.TheVariants as Why
use Rattle.replies.specs.Answers.{Answer, number_answer, cells_answer, refused, done, cell_counts}
use Rattle.replies.proofs.AnswerLaws.{refused_not_done, done_value, header_Right}
use Rattle.looks.specs.Calls.{size_word, size_in, size_of, in_use_of}
use Rattle.looks.specs.Terms.{Sizes, Uses}
use Rattle.replies.specs.declared.Refusal.{Refusal}
use Rattle.replies.specs.declared.CellCounts.{CellCounts}

pub size_held : (z : Shape) (a : List ℕ) (e : ℕ) → held_slot z a e ≡ true → size_in z a e ≡ done (size_word z a e) 0
unfolding size_in
size_held z a e h = rw h

pub size_not_held : (z : Shape) (a : List ℕ) (e : ℕ) → held_slot z a e ≡ false → size_in z a e ≡ refused Why.NoSuchEdition
unfolding size_in
size_not_held z a e h = rw h

-- an answer that is done is of the case that is
counted-done : (r : Result ℕ Refusal) (n : ℕ) → number_answer r ≡ done n 0 → r ≡ Ok n
counted-done (Ok m) n e = ap Ok (done_value m 0 n 0 e)
counted-done (Err why) n e = absurd (refused_not_done why n 0 e)

in_use_answer-done : (r : Result CellCounts Refusal) (b n : ℕ) → cells_answer r ≡ done b n → r ≡ cell_counts b n
in_use_answer-done (Ok c) b n e =
    let x = c.branches in
    let y = c.entries in
    let p = ap (λ (w : Answer). w.a) e in
    let q = ap (λ (w : Answer). w.b) e in
    λ i. cell_counts (p i) (q i)
in_use_answer-done (Err why) b n e = absurd (refused_not_done why b n e)

pub sizes : (a : List ℕ) (e : ℕ) (r : Result ℕ Refusal) → number_answer r ≡ size_of a e → Sizes a e r
sizes a e r q =
    record {
      result = q;
      shown =
          λ z h m E.
          counted-done r (size m)
          (q ∙ header_Right (header_of a) _ (λ y. size_in y a e) z ((Header-says a z).1 h) ∙ size_held z a e (held_is z a e E.slot E.held)
          ∙ ap (λ (n : ℕ). done n 0) E.sized);
    }

pub uses : (a : List ℕ) (r : Result CellCounts Refusal) → cells_answer r ≡ in_use_of a → Uses a r
uses a r q =
    record {
      result = q;
      reached =
          λ S.
          let b = S.cells.in_use 0 in
          let n = S.cells.in_use 1 in
          in_use_answer-done r _ _
          (q ∙ header_Right (header_of a) _ _ S.shape ((Header-says a S.shape).1 S.header) ∙ (λ i. done (b i) (n i)));
    }
