-- What format leaves is what its definition says, and from that alone it follows that the arena is sound and holds no edition.
use Rattle.std.proofs.Common.{◌≡◌, ℕ, ◌<◌, ◌≤◌, List, length, Ok, Err, Result, sym, refl, ap, ◌∙◌, subst, ⊎_elim, le-leb}
use borrow.Author.Tests.{lt-leb}
use Rattle.cases.proofs.Cases.{lt?}
use Rattle.trie.specs.Trie.{Map}
use Rattle.layout.specs.declared.Shape.{Shape}
use Rattle.layout.specs.Layout.{total}
use Rattle.layout.specs.Header.{Header, shape_of}
use Rattle.layout.specs.Columns.{columns}
use Rattle.layout.specs.Blank.{blank}
use Rattle.layout.proofs.HeaderLaws.{Fits-says, Header-once}
use Rattle.layout.proofs.BlankLaws.{blank_right}
use Rattle.arena.specs.Shows.{Edition}
use Rattle.arena.specs.Sound.{Sound}
use Rattle.arena.proofs.BlankArena.{blank_sound, blank_no_Edition}
use Rattle.replies.specs.declared.Refusal.TheVariants as Why
use Rattle.replies.specs.declared.Refusal.{Refusal}
use Rattle.replies.specs.Answers.{unit_answer, refused, done}
use Rattle.replies.proofs.AnswerLaws.{refused_not_done}
use Rattle.replies.specs.Outcomes.{Outcome, leaves}
use Rattle.makes.specs.Calls.{format_in, format_of}
use Rattle.makes.specs.Terms.{Formats}
use Rattle.layout.specs.declared.Misfit.{Misfit}
use Rattle.layout.specs.declared.Misfit.TheVariants.{BadDegree, BadSizes}

-- THE CASES
module _ (a : List ℕ) (y : Result Shape Misfit) where
  pub format_done : (z : Shape) → y ≡ Ok z → total z ≤ length a → format_in a y ≡ leaves (done 0 0) (blank z a)
  unfolding format_in
  format_done z e l = rw (e, le-leb (total z) (length a) l)

  pub format_short : (z : Shape) → y ≡ Ok z → length a < total z → format_in a y ≡ leaves (refused Why.SliceTooShort) a
  unfolding format_in
  format_short z e l = rw (e, lt-leb (total z) (length a) l)

  pub format_degree : y ≡ (Err BadDegree) → format_in a y ≡ leaves (refused Why.BadDegree) a
  unfolding format_in
  format_degree e = rw e

  pub format_sizes : y ≡ (Err BadSizes) → format_in a y ≡ leaves (refused Why.BadSizes) a
  unfolding format_in
  format_sizes e = rw e

-- a format that is done was given a shape that fits
record Fitted (a : List ℕ) (y : Result Shape Misfit) (b : List ℕ) : Type 0 where
  pub shape : Shape
  pub fits : y ≡ Ok shape
  pub long : total shape ≤ length a
  pub laid : b ≡ blank shape a

not_done : (a b : List ℕ) (why : Refusal) → leaves (done 0 0) b ≡ leaves (refused why) a → ⊥
not_done a b why e = refused_not_done why 0 0 (sym (ap (λ (o : Outcome). o.answer) e))

done-Fitted : (a : List ℕ) (y : Result Shape Misfit) (b : List ℕ) → leaves (done 0 0) b ≡ format_in a y → Fitted a y b
done-Fitted a (Ok z) b e =
    ⊎_elim
    (λ l. absurd (not_done a b Why.SliceTooShort (e ∙ format_short a (Ok z) z refl l)))
    (λ l.
    let q : leaves (done 0 0) b ≡ leaves (done 0 0) (blank z a) = e ∙ format_done a (Ok z) z refl l in
    record { shape = z; fits = refl; long = l; laid = ap (λ (o : Outcome). o.words) q })
    (lt? (length a) (total z))
done-Fitted a (Err BadDegree) b e = absurd (not_done a b Why.BadDegree (e ∙ format_degree a (Err BadDegree) refl))
done-Fitted a (Err BadSizes) b e = absurd (not_done a b Why.BadSizes (e ∙ format_sizes a (Err BadSizes) refl))

-- such an arena is sound and holds no edition
module _ (a : List ℕ) (g n m s : ℕ) (b : List ℕ) (z : Shape) (fits : shape_of g n m s ≡ Ok z) (long : total z ≤ length a) (laid : b ≡ blank z a) where
  fitted_Sound : Sound b
  fitted_Sound = let f = Fits-says g n m s z fits in rw laid (blank_sound z a f.allowed f.three long)

  fitted_none : (y : Shape) → Header b y → (i : ℕ) (x : Map ℕ) → Edition y (columns y b) i x → ⊥
  fitted_none y h i x E =
      let f = Fits-says g n m s z fits in
      let q : y ≡ z = Header-once b y z h (rw laid (blank_right z a f.allowed f.three long)) in
      blank_no_Edition z a f.allowed i x
      (subst (λ (w : List ℕ). Edition z (columns z w) i x) laid (subst (λ (v : Shape). Edition v (columns v b) i x) q E))

-- THE CONTRACT FOLLOWS FROM THE OUTCOME
pub formats : (a : List ℕ) (g n m s : ℕ) (r : Result (Unit {0}) Refusal) (b : List ℕ) → leaves (unit_answer r) b ≡ format_of a g n m s → Formats a g n m s r b
formats a g n m s r b e =
    record {
      outcome = e;
      sound = λ d. let k = fitted d in fitted_Sound a g n m s b k.shape k.fits k.long k.laid;
      no_edition = λ d. let k = fitted d in fitted_none a g n m s b k.shape k.fits k.long k.laid;
    }
  where
    fitted : r ≡ (Ok tt) → Fitted a (shape_of g n m s) b
    fitted d = done-Fitted a (shape_of g n m s) b (ap (λ (x : Result (Unit {0}) Refusal). leaves (unit_answer x) b) (sym d) ∙ e)
