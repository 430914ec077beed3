use Rattle.std.proofs.Common.{◌≡◌, List, [], ◌∷◌, ◌++◌, length, refl, sym, ap, ◌∙◌, subst, arith}
use Rattle.std.specs.Prelude.{reverse}
use Rattle.std.proofs.lemmas.List.{reverse-reverse}
use Rattle.scene_book.specs.declared.edits.Edit.{Edit}
use Rattle.noise_map.specs.inner.Steps.{HasMadeAll, HasLackedOne}
use Rattle.noise_map.proofs.EditLists.{none-made, one-lacked, turned-next, turned-end, next-made, was-made, was-lacked, no-items}
use Rattle.noise_map.proofs.lines.step.Context.make_all.Goals as goal

pub loop-edit-init : goal.loop-edit-init
loop-edit-init g c = record { made = ([], refl, none-made c.args.keeps c.args.editor.now c.requires.knows); own = c.requires.own }

pub returns-then-lacked : goal.returns-then-lacked
returns-then-lacked g c =
    let so_far = c.loop-edit.invariant.made in
    let edit = c.in-Some.edit in
    let left = c.pop.new.self.items in
    let items : c.loop-edit.edits.items ≡ left ++ edit ∷ [] = c.in-Some.ensures.items in
    let turned = reverse c.reverse.new.self.items in
    let all : turned ≡ c.args.edits.items = ap reverse c.reverse.ensures.items ∙ reverse-reverse c.args.edits.items in
    let next = turned-next so_far.0 c.loop-edit.edits.items left edit turned so_far.1 items in
    subst (λ (es : List Edit). HasLackedOne c.args.editor.now es c.make-made.new.editor) (sym next ∙ all)
    (one-lacked c.args.keeps c.args.editor.now c.loop-edit.editor c.make-made.new.editor so_far.0 edit (reverse left) so_far.2
    (was-lacked c.args.keeps c.loop-edit.editor c.make-made.new.editor edit c.make-made.result c.make-made.ensures (sym c.lacked.ensures ∙ c.if-lacked.true)))

pub loop-edit-preserved : goal.loop-edit-preserved
loop-edit-preserved g c =
    let so_far = c.loop-edit.invariant.made in
    let made = was-made c.args.keeps c.loop-edit.editor c.make-made.new.editor c.in-Some.edit c.make-made.result c.make-made.ensures (sym c.lacked.ensures ∙ c.if-lacked.false) in
    record {
      made = next-made c.args.keeps c.args.editor.now c.loop-edit.editor c.make-made.new.editor so_far.0 c.in-Some.edit (reverse c.reverse.new.self.items) c.loop-edit.edits.items c.pop.new.self.items so_far.1 c.in-Some.ensures.items so_far.2 made;
      own = made.goes.table ∙ c.loop-edit.invariant.own;
    }

pub loop-edit-preserved-else-lacked : goal.loop-edit-preserved-else-lacked
loop-edit-preserved-else-lacked g c =
    let so_far = c.loop-edit.invariant.made in
    let made = was-made c.args.keeps c.loop-edit.editor c.make-made.new.editor c.in-Some.edit c.make-made.result c.make-made.ensures (sym c.lacked.ensures ∙ c.if-lacked.false) in
    record {
      made = next-made c.args.keeps c.args.editor.now c.loop-edit.editor c.make-made.new.editor so_far.0 c.in-Some.edit (reverse c.reverse.new.self.items) c.loop-edit.edits.items c.pop.new.self.items so_far.1 c.in-Some.ensures.items so_far.2 made;
      own = made.goes.table ∙ c.loop-edit.invariant.own;
    }

pub loop-edit-preserved-else-lacked-2 : goal.loop-edit-preserved-else-lacked-2
loop-edit-preserved-else-lacked-2 g c =
    let so_far = c.loop-edit.invariant.made in
    let made = was-made c.args.keeps c.loop-edit.editor c.make-made.new.editor c.in-Some.edit c.make-made.result c.make-made.ensures (sym c.lacked.ensures ∙ c.if-lacked.false) in
    record {
      made = next-made c.args.keeps c.args.editor.now c.loop-edit.editor c.make-made.new.editor so_far.0 c.in-Some.edit (reverse c.reverse.new.self.items) c.loop-edit.edits.items c.pop.new.self.items so_far.1 c.in-Some.ensures.items so_far.2 made;
      own = made.goes.table ∙ c.loop-edit.invariant.own;
    }

pub loop-edit-preserved-else-lacked-3 : goal.loop-edit-preserved-else-lacked-3
loop-edit-preserved-else-lacked-3 g c =
    let so_far = c.loop-edit.invariant.made in
    let made = was-made c.args.keeps c.loop-edit.editor c.make-made.new.editor c.in-Some.edit c.make-made.result c.make-made.ensures (sym c.lacked.ensures ∙ c.if-lacked.false) in
    record {
      made = next-made c.args.keeps c.args.editor.now c.loop-edit.editor c.make-made.new.editor so_far.0 c.in-Some.edit (reverse c.reverse.new.self.items) c.loop-edit.edits.items c.pop.new.self.items so_far.1 c.in-Some.ensures.items so_far.2 made;
      own = made.goes.table ∙ c.loop-edit.invariant.own;
    }

pub returns : goal.returns
returns g c =
    let so_far = c.loop-edit.invariant.made in
    let none : length c.loop-edit.edits.items ≡ 0 = omega (arith, c.in_default.ensures.cases.0, c.loop-edit.edits.ok.0) in
    let turned = reverse c.reverse.new.self.items in
    let all : turned ≡ c.args.edits.items = ap reverse c.reverse.ensures.items ∙ reverse-reverse c.args.edits.items in
    subst (λ (es : List Edit). HasMadeAll c.args.keeps c.args.editor.now es c.loop-edit.editor)
    (turned-end so_far.0 c.loop-edit.edits.items turned so_far.1 (no-items c.loop-edit.edits.items none) ∙ all) so_far.2
