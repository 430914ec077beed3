use Rattle.std.proofs.Common.{[], ◌∷◌, ◌++◌}
use Rattle.std.proofs.lemmas.List.Elements.{All-same, All-push}
use Rattle.path_calc.specs.Segments.{FitsSegment}
use Rattle.path_calc.proofs.bundles.segments.Segs.push.Goals as goal

pub invariant_of-self-in_err-both-in-One : goal.invariant_of-self-in_err-both-in-One
invariant_of-self-in_err-both-in-One c = rw c.in-One.is at c.self.invariant

pub invariant_of-self-in_ok-both-in-One-2 : goal.invariant_of-self-in_ok-both-in-One-2
invariant_of-self-in_ok-both-in-One-2 c =
    All-same FitsSegment c.in_ok-both-in-One.field-0.items (c.in-One.first ∷ c.args.segment ∷ []) c.in_ok-both-in-One.ensures
    (All-push FitsSegment (c.in-One.first ∷ []) c.args.segment (rw c.in-One.is at c.self.invariant) c.requires)

pub invariant_of-self-in_ok-push-in-Many : goal.invariant_of-self-in_ok-push-in-Many
invariant_of-self-in_ok-push-in-Many c =
    All-same FitsSegment c.push.new.self.items (c.in-Many.segments.items ++ c.args.segment ∷ []) c.in_ok-push-in-Many.ensures.items
    (All-push FitsSegment c.in-Many.segments.items c.args.segment (rw c.in-Many.is at c.self.invariant) c.requires)
