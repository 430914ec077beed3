use Rattle.std.proofs.Common.{◌≡◌, length, arith, rules}
use Rattle.std.proofs.lemmas.Fn.{always_returns_same}
use Rattle.std.proofs.lemmas.Grind.{common_steps}
use Rattle.std.proofs.lemmas.List.Sorted.{sorted_far}
use Rattle.edge_chain.proofs.Bearings.{comes_before, is_order}
use Rattle.edge_chain.proofs.Chains.{Buffer, has_end, is_chain, is_value}
use Rattle.edge_chain.proofs.stretching.stretch.Goals as goal

pub overflow_sub-count-2 : goal.overflow_sub-count-2
overflow_sub-count-2 c =
    let held : c.len.result ≡ length c.wind-begin.new.points = search rules in
    let end = has_end c.args.hand c.args.r c.sort_unstable_by.new.self.items c.wind-begin.new.points c.wind-begin.result (search rules) in
    omega (arith, end, held)

-- what the buffer holds at the end
buffer : (c : goal.After-truncate)
    → Buffer c.args.hand c.args.s c.args.r c.args.points.now c.sort_unstable_by.new.self.items c.wind-begin.new.points c.truncate.new.self.items c.wind-begin.result
buffer c = record {
  permutation = search rules;
  order =
      let before = comes_before c.args.hand c.args.s c.args.r in
      let ranks = is_order c.args.hand c.args.s c.args.r in
      sorted_far before ranks _ (c.sort_unstable_by.ensures.sorted before ranks (always_returns_same _ _ _ (λ a r g h. search rules)));
  string = search rules;
  count = grind (arith, common_steps);
  within = search rules;
  cut = grind (arith, common_steps);
}

pub returns-clause-chain : goal.returns-clause-chain
returns-clause-chain c = is_chain _ _ _ _ _ _ _ _ (buffer c)

pub returns-clause-value : goal.returns-clause-value
returns-clause-value c = is_value _ _ _ _ _ _ _ _ (buffer c)
