-- A way of a known length.
use Rattle.std.proofs.Common.{◌≡◌, ℕ, pos, refl}
use Rattle.fix_interval.specs.Tree.{Tree, Const, Sub, enc}
use Rattle.term_barrier.specs.Edges.{rise, slant}
use Rattle.term_barrier.specs.inner.Prepared.{slant_of}

pub slant-is : (x : Tree) (high low : ℕ) → slant_of (enc x) (enc (rise high low)) ≡ enc (slant x high low)
unfolding slant
slant-is x high low = refl

-- between two heights that are known in metres
pub slant-between : (x : Tree) (high low : ℕ) → slant_of (enc x) (enc (Sub (Const (pos high) 1000) (Const (pos low) 1000))) ≡ enc (slant x high low)
unfolding slant rise
slant-between x high low = refl
