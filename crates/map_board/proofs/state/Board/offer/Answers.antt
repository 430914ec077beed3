use Rattle.std.proofs.Common.{◌≡◌, ◌∙◌, ap, sym, subst}
use Rattle.map_board.specs.Rows.{State, one_more, with_row}
use Rattle.map_board.specs.Jobs.{IsOutFor}
use Rattle.map_board.specs.Journal.{first_naming}
use Rattle.map_board.specs.Machine.{with_kept}
use Rattle.map_board.proofs.Landings.{seen, is-awaited}
use Rattle.map_board.proofs.state.Board.offer.Goals as goal
use Rattle.map_board.proofs.state.Board.offer.Goals.{After-naming_since}

-- it is the answer's receiver that an edit since is looked for
named : (c : After-naming_since) → first_naming c.args.self.now.journal c.args.answer.version c.args.answer.receiver.name ≡ c.naming_since.result
named c = sym (c.naming_since.ensures ∙ (λ i. first_naming c.args.self.now.journal (c.answer.view_is i).version (c.name.ensures i)))

pub keep-requires-clause-out : goal.keep-requires-clause-out
keep-requires-clause-out c =
    let a = c.args.answer in
    let s = c.args.self.now in
    subst (λ (s : State). IsOutFor s.rows a.version a.receiver) (sym c.self.view_is)
    (is-awaited s.journal s.rows a.version a.receiver c.requires.may (named (goal.at.keep-requires-clause-out c).After-naming_since ∙ c.in-None.is))

pub returns-in-Some : goal.returns-in-Some
returns-in-Some c = (
  named (goal.at.returns-in-Some c).After-naming_since ∙ c.in-Some.is,
  ap (λ n. seen (record c.self.inside { counts = record c.self.inside.counts { gone = n } })) c.saturating_add-self-inside.ensures
      ∙ ap (λ (s : State). record s { counts = record s.counts { gone = one_more s.counts.gone } }) c.self.view_is,
)

pub returns-in-None : goal.returns-in-None
returns-in-None c =
    let a = c.args.answer in
    let counted =
    ap (λ n. seen (record c.self.inside { counts = record c.self.inside.counts { kept = n } })) c.saturating_add-self-inside-in-None.ensures
    ∙ ap (λ (s : State). record s { counts = record s.counts { kept = one_more s.counts.kept } }) c.self.view_is in (
      named (goal.at.returns-in-None c).After-naming_since ∙ c.in-None.is,
      c.keep.ensures ∙ ap (λ (s : State). record s { rows = with_row a.receiver.name (with_kept (record { version = a.version; levels = a.levels })) s.rows }) counted,
    )
