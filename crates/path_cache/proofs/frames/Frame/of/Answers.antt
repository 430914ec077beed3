use Rattle.std.proofs.Common.{◌<◌, take, length, subst, sym, ◌∙◌, arith}
use Rattle.std.proofs.lemmas.Grind.{common_steps}
use Rattle.std.proofs.lemmas.List.{take_all}
use Rattle.std.proofs.lemmas.List.Elements.{All-more, All-weaker}
use Rattle.scene_parts.specs.Parts.{Source}
use Rattle.path_cache.specs.Frames.{IsIn, Holds}
use Rattle.path_cache.proofs.Framing.{one-lies}
use Rattle.path_cache.proofs.frames.Frame.of.Goals as goal

pub loop-source-init : goal.loop-source-init
loop-source-init c =
    let frame = c.of_one-frame.result in
    let some : 0 < length c.args.sources.now = grind (arith, common_steps) in
    record {
      holds = λ k d below. absurd (omega (arith, below));
      tight = λ other holds. one-lies frame other _ c.of_one-frame.ensures.low c.of_one-frame.ensures.high
          (subst (λ (s : Source). IsIn other s.at) (sym (c.first.view_is ∙ c.index-sources-0.is)) (holds 0 c.index-sources-0.result some));
    }

pub loop-source-preserved : goal.loop-source-preserved
loop-source-preserved c =
    let sources = c.args.sources.now in
    let i = c.loop-source.source-index in
    let old = c.loop-source.frame in
    let new = c.with-frame.result in
    let inv = c.loop-source.invariant in
    let is = c.source.view_is ∙ c.source-item.is in
    record {
      holds = All-more (λ (s : Source). IsIn new s.at) sources i c.source-item.result c.loop-source-test.true
          (All-weaker (λ (s : Source). IsIn old s.at) (λ (s : Source). IsIn new s.at) (λ s. c.with-frame.ensures.others s.at) (take i sources) inv.holds)
          (subst (λ (s : Source). IsIn new s.at) is c.with-frame.ensures.here);
      tight = λ other holds. c.with-frame.ensures.tight other (inv.tight other holds)
          (subst (λ (s : Source). IsIn other s.at) (sym is) (holds i c.source-item.result c.loop-source-test.true));
    }

pub returns-clause-holds : goal.returns-clause-holds
returns-clause-holds c =
    subst (Holds c.loop-source.frame) (take_all c.loop-source.source-index c.args.sources.now (omega (arith, c.loop-source-test.false))) c.loop-source.invariant.holds
