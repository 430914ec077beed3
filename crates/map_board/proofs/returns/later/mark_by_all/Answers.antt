use Rattle.std.proofs.Common.{◌≡◌, ◌∙◌, ℕ, ◌+◌, ◌<◌, ◌∷◌, ap, sym, suc, length, drop, get_or, drop-cons, add-one, List, Bool, Vec, Global}
use Rattle.scene_parts.specs.Parts.{Receiver}
use Rattle.path_calc.specs.Bundles.{Bundle}
use Rattle.touch_test.specs.Touches.{bundled, edit_touches}
use Rattle.map_board.specs.declared.edits.log.LogEntry.{LogEntry}
use Rattle.map_board.specs.inner.Marks.{marks_after}
use Rattle.map_board.specs.inner.Later.{marks_after_all}
use Rattle.map_board.proofs.Unmarked.{length-marks}
use Rattle.map_board.proofs.returns.later.mark_by_all.Goals as goal

-- the edits from a place on mark as the one there and then those behind it
one-more : (entries : List LogEntry) (i : ℕ) (entry : LogEntry) (r : Receiver) (bundles : List Bundle) (marks : List Bool) → i < length entries
    → entry ≡ get_or entries i entry → marks_after_all (drop i entries) r bundles marks
    ≡ marks_after_all (drop (i + 1) entries) r bundles (marks_after entry.logged.edit entry.logged.old r bundles marks)
one-more entries i entry r bundles marks below is =
    rw (add-one) (ap (λ es. marks_after_all es r bundles marks) (drop-cons entries i entry below ∙ ap (λ e. e ∷ drop (suc i) entries) (sym is)))

pub loop-entry-preserved : goal.loop-entry-preserved
loop-entry-preserved c =
    let entry = c.entry-item.result in
    let r = c.args.receiver.now in
    let before = c.loop-entry.cache in
    let bundles : c.mark.new.cache.bundles ≡ c.args.cache.now.bundles = c.mark.ensures.bundles ∙ c.loop-entry.invariant.bundles in
    let set : c.mark.new.cache.marks.items ≡ marks_after entry.logged.edit entry.logged.old r c.args.cache.now.bundles.items before.marks.items =
    c.mark.ensures.marks ∙ ap (λ (b : Vec Bundle Global). marks_after entry.logged.edit entry.logged.old r b.items before.marks.items) c.loop-entry.invariant.bundles in
    let one_each : length before.marks.items ≡ length c.args.cache.now.bundles.items =
    c.loop-entry.invariant.one_each ∙ ap (λ (b : Vec Bundle Global). length b.items) c.loop-entry.invariant.bundles in
    record {
      bundles = bundles;
      order = c.mark.ensures.order ∙ c.loop-entry.invariant.order;
      one_each = ap length set
          ∙ (length-marks (λ bundle. edit_touches entry.logged.edit entry.logged.old (bundled r bundle)) c.args.cache.now.bundles.items before.marks.items one_each
          ∙ ap (λ (b : Vec Bundle Global). length b.items) (sym bundles));
      marks = ap (marks_after_all (drop (c.loop-entry.entry-index + 1) c.args.later.now) r c.args.cache.now.bundles.items) set
          ∙ (sym (one-more c.args.later.now c.loop-entry.entry-index entry r c.args.cache.now.bundles.items before.marks.items c.loop-entry-test.true c.entry-item.is)
          ∙ c.loop-entry.invariant.marks);
    }
