-- An answer as C and Rust see it: one struct of four numbers. `Says` is how a call that answers such a struct is stated by the
-- contract of the call it makes.
use Rattle.std.specs.Prelude.{◌≡◌}
use Rattle.replies.specs.Answers.{Answer, answer}
use Rattle.flat.specs.declared.Flat.{Flat}

-- the answer that a struct holds
abbrev pub held : Flat → Answer
held r = answer r.number r.a r.b r.c

-- the struct holds an answer of the call, flattened by document 01's numbers and values
abbrev pub Says : {A : Type 0} → (A → Answer) → (A → Type 0) → Flat → Type 0
Says {A} flatten meets r = (x : A) × meets x × (held r ≡ flatten x)
