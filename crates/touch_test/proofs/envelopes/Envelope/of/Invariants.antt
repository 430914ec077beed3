-- The box is of the receiver and holds the paths so far.
use Rattle.std.proofs.Common.{◌≡◌, take}
use Rattle.std.specs.Prelude.{All}
use Rattle.touch_test.specs.Envelopes.{HoldsPath}
use Rattle.touch_test.proofs.envelopes.Envelope.of.Given as goal

abbrev pub invariant-loop-bundle : goal.invariant-loop-bundle
invariant-loop-bundle l = (l.envelope.to ≡ l.fn.to) × All (HoldsPath l.envelope) (take l.bundle-index l.bundles)
