use Rattle.std.proofs.Common.{◌∙◌, ap, sym, subst, map}
use Rattle.scene_book.specs.declared.edits.Edit.{Edit}
use Rattle.map_board.specs.inner.Sources.{LeavesSourceNames}
use Rattle.map_board.proofs.LeftNames.{name_of, put-leaves-names, removal-leaves-names, grid-leaves-names, setting-leaves-names}
use Rattle.map_board.proofs.rows.standing.leaves_source_names.Goals as goal

pub returns-in-Put : goal.returns-in-Put
returns-in-Put c passes =
    let logged = c.args.logged.now in
    subst (λ (e : Edit). LeavesSourceNames e logged.old) (sym c.in-Put.is)
    (put-leaves-names c.in-Put.part logged.old
    (ap (map name_of) (sym c.source_of.ensures) ∙ (c.are_of_one_name.ensures passes ∙ ap (map name_of) c.source_if_any-old.ensures)))

pub returns-in-Remove : goal.returns-in-Remove
returns-in-Remove c passes =
    let logged = c.args.logged.now in
    subst (λ (e : Edit). LeavesSourceNames e logged.old) (sym c.in-Remove.is)
    (removal-leaves-names _ logged.old (c.are_of_one_name-in-Remove.ensures passes ∙ ap (map name_of) c.source_if_any-old.ensures))

pub returns-in-Grid : goal.returns-in-Grid
returns-in-Grid c passes =
    subst (λ (e : Edit). LeavesSourceNames e c.args.logged.now.old) (sym c.in-Grid.is) (grid-leaves-names _ c.args.logged.now.old)

pub returns-in-Set : goal.returns-in-Set
returns-in-Set c passes =
    subst (λ (e : Edit). LeavesSourceNames e c.args.logged.now.old) (sym c.in-Set.is) (setting-leaves-names _ c.args.logged.now.old)
