-- The number of a kind is 0 or 1.
use Prim.Native.Nat.{◌<◌}
use native.Mathlib.Omega.{arith}
use Rattle.layout.specs.declared.Kind.{Kind}
use Rattle.layout.specs.declared.Kind.TheVariants.{Branch, Entry}
use Rattle.layout.specs.Layout.{number_of_kind}

pub kind_low : (k : Kind) → number_of_kind k < 2
kind_low Branch = omega arith
kind_low Entry = omega arith
