-- `reaches::shape::branch_words` meets its contract: at most 64 cells of at most 67 words. Assumes nothing.
use Prim.Native.Nat.{ℕ, ◌+◌, ◌*◌, ◌%◌, ◌≤◌}
use native.Mathlib.Nat.{mul-le-mul}
use native.Mathlib.Omega.{arith}
use Rattle.reaches.proofs.shape.branch_words.Goals as goal

few : (cells degree : ℕ) → cells % 65 * (3 + degree % 65) ≤ 4288
few cells degree =
    let number : cells % 65 ≤ 64 = omega arith in
    let wide : 3 + degree % 65 ≤ 67 = omega arith in
    mul-le-mul number wide

pub overflow_mul-result : goal.overflow_mul-result
overflow_mul-result c = omega (arith, few c.args.cells c.args.degree)

pub returns : goal.returns
returns c = few _ _
