use Rattle.std.proofs.Common.{◌≡◌, ◌∙◌, ◌++◌, [], ap, sym, append-nil, arith}
use Rattle.std.specs.Map.{values_of}
use Rattle.scene_book.proofs.ListLemmas.{empty}
use Rattle.scene_book.proofs.FiledLemmas.{filed-push, values-push}
use Rattle.scene_book.proofs.filing.filed.Goals as goal

pub loop-thing-preserved : goal.loop-thing-preserved
loop-thing-preserved g c = record {
  can_next = tt;
  is_finite = tt;
  filed = rw c.in_ok-push.ensures.items (filed-push g.T.Named.slot.name_of c.loop-thing.entries.items c.in_ok-key.key c.in-Some.thing c.in_ok-key.ensures c.loop-thing.invariant.filed);
  so_far = rw c.in_ok-push.ensures.items
      (values-push g.T.Named.slot.name_of c.loop-thing.entries.items c.in_ok-key.key c.in-Some.thing c.next.new.self.rest.items
      ∙ ap (λ l. values_of c.loop-thing.entries.items ++ l) (sym c.in-Some.ensures.steps.0)
      ∙ c.loop-thing.invariant.so_far);
}

pub returns-clause-things : goal.returns-clause-things
returns-clause-things g c =
    let none : c.loop-thing.thing-iterator.rest.items ≡ [] = empty c.loop-thing.thing-iterator.rest.items (omega (arith, c.in-None.ensures.steps.0)) in
    sym (append-nil (values_of c.loop-thing.entries.items))
    ∙ ap (λ l. values_of c.loop-thing.entries.items ++ l) (sym none)
    ∙ c.loop-thing.invariant.so_far
