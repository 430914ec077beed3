use Rattle.std.proofs.Common.{◌≡◌, ◌<◌, List, [], ◌∷◌, ◌++◌, length, sym, ap, ◌∙◌, arith, inr, inl}
use Rattle.std.proofs.lemmas.List.{append-nil, nil_from_length}
use Rattle.std.proofs.lemmas.List.Elements.{All-nil, All-cons}
use Rattle.scene_undo.specs.declared.versions.KeptVersion.{KeptVersion}
use Rattle.scene_undo.proofs.KeptVersions.{later-parts, later-edits}
use Rattle.scene_undo.proofs.versions.take_later.Goals as goal

pub loop-one-init : goal.loop-one-init
loop-one-init c = ([], sym (append-nil c.args.kept.now.items), All-nil (λ (one : KeptVersion). c.args.version < one.version), c.new-edits.ensures.items)

pub returns-then-one-version-clause-cut : goal.returns-then-one-version-clause-cut
returns-then-one-version-clause-cut c =
    let cut = c.loop-one.invariant in
    record {
      later = cut.0;
      parts = cut.1 ∙ ap (λ (ks : List KeptVersion). ks ++ cut.0) (c.in-Some.ensures.items ∙ sym c.push_reserved.ensures.items);
      behind = cut.2;
      ends = inr (c.pop.new.self.items, c.in-Some.one, c.push_reserved.ensures.items, c.if-one-version.true);
      edits_are = cut.3;
    }

pub loop-one-preserved : goal.loop-one-preserved
loop-one-preserved c =
    let cut = c.loop-one.invariant in
    let one = c.in-Some.one in (
      one ∷ cut.0,
      cut.1 ∙ later-parts c.loop-one.kept.items c.pop.new.self.items cut.0 one c.in-Some.ensures.items,
      All-cons (λ (k : KeptVersion). c.args.version < k.version) one cut.0 (omega (arith, c.if-one-version.false)) cut.2,
      c.in_ok-append.ensures.items ∙ ((λ i. cut.3 i ++ c.into_vec-back.ensures i) ∙ later-edits cut.0 one),
    )

pub returns-clause-cut : goal.returns-clause-cut
returns-clause-cut c =
    let cut = c.loop-one.invariant in
    let left = c.pop.new.self.items in
    let same : c.loop-one.kept.items ≡ left = c.in_default.ensures.items ∙ append-nil left in
    let none : length c.loop-one.kept.items ≡ 0 = omega (arith, c.in_default.ensures.cases.0, c.loop-one.kept.ok.0) in
    record {
      later = cut.0;
      parts = cut.1 ∙ ap (λ (ks : List KeptVersion). ks ++ cut.0) same;
      behind = cut.2;
      ends = inl (sym same ∙ nil_from_length c.loop-one.kept.items none);
      edits_are = cut.3;
    }
