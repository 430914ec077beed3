use Rattle.std.proofs.Common.{◌≡◌, ℕ, ◌++◌, ◌+◌, List, ap, sym, subst, refl, [], ◌∙◌, arith, length, take, inl, zero-add}
use Rattle.std.proofs.lemmas.List.{append-nil}
use Rattle.std.specs.Prelude.{Some}
use Rattle.std.specs.Io.KnownBytes.{Appends}
use Rattle.map_io.specs.Lines.{lines}
use Rattle.map_io.specs.LineLaws.{lines-empty}
use Rattle.map_text.specs.declared.site_summary.SiteSummary.{SiteSummary}
use Rattle.noise_map.specs.declared.run.status.Status.{Status}
use Rattle.noise_map.specs.declared.run.status.Status.TheVariants as status
use Rattle.noise_map.specs.Demands.{demand_of}
use Rattle.noise_map.specs.Effects.{Past, effect_of}
use Rattle.noise_map.specs.inner.Steps.{past_of}
use Rattle.noise_map.specs.inner.FirstLine.{IsFirstLine}
use Rattle.map_text.specs.SiteSummary.{row_of_summary}
use Rattle.noise_map.specs.SiteSummary.{summary_of, made_by, made_after, made_with, site_made, site_lines, site_row}
use Rattle.noise_map.specs.inner.Adding.{made_with_answer}
use Rattle.noise_map.specs.inner.Progress.{LinesDone, HasEnded, SiteEnded}
use Rattle.noise_map.proofs.Doing.{comes_to, did-more, failed-way}
use Rattle.noise_map.proofs.Ending.{did-at-start}
use Rattle.noise_map.proofs.Sites.{next-line, line-whole, made-push, made-past, made-more, with-refused, ended, broken_off, no-line, unmade, way-at-end}
use Rattle.noise_map.proofs.make.run_site.Goals.{in-Ok-put_all, in-Err}
use Rattle.noise_map.proofs.make.run_site.Goals as goal

pub loop-line-init : goal.loop-line-init
loop-line-init g c =
    let text = c.as_slice-rest.ensures.value ∙ c.in-Ok.ensures.text in
    record {
      whole = ap lines text;
      counted = zero-add _ ∙ ap (λ (bytes : List ℕ). length (lines bytes)) text;
      did = did-at-start c.args.editor.now c.requires.nothing c.requires.knows;
      made = c.empty-summary.ensures.made;
      few = omega (arith, ap length text, c.in-Ok.ensures.short, ap length c.in-Ok.ensures.text);
      refused = omega (arith, ap (λ (m : SiteSummary). m.refused) c.empty-summary.ensures.made);
      level = c.empty-summary.ensures.level;
      own = c.requires.own;
      knows = c.requires.knows;
    }

pub loop-line-preserved : goal.loop-line-preserved
loop-line-preserved g c =
    let all = site_lines c.args.number in
    let k = c.loop-line.lines in
    let done = take k all in
    let line = c.in-Some.line.now in
    let after = c.in-Some.after.now in
    let kept = c.loop-line.invariant in
    let parts : IsFirstLine c.loop-line.rest.now (Some (line, after)) = rw c.in-Some.is at c.first_line.ensures in
    let next = next-line all k c.loop-line.rest.now line after parts kept.whole kept.counted in
    let added = c.in-Ok-make_line.ensures.adds in
    let met = added.1 in
    let comes = comes_to c.loop-line.editor line in
    let same_past : past_of c.loop-line.editor ≡ (made_by done).past = kept.did.past ∙ sym (made-past done) in
    let did = did-more c.args.editor.now.seat c.loop-line.editor c.make_line.new.editor done line added.0 kept.did met added.2 in
    let more = made-more (made_by done) c.loop-line.editor.seat c.make_line.new.editor.seat comes added.0 (ap (λ (p : Past). p.journal) same_past) met in
    let made : c.make_line.new.summary ≡ summary_of (made_with (made_by done) comes) =
    added.3 ∙ (ap (λ (m : SiteSummary). made_with_answer m added.0) kept.made ∙ more) in
    let after_line : made_with (made_by done) comes ≡ made_after (made_by done) line =
    ap (λ (p : Past). made_with (made_by done) (effect_of p (demand_of line))) same_past in
    record {
      whole = line-whole all k line (lines after) next.whole next.counted;
      counted = omega (arith, next.counted);
      did = subst (LinesDone c.args.editor.now.seat c.make_line.new.editor) (sym next.step) did;
      made = made ∙ ap summary_of (after_line ∙ sym (ap made_by next.step ∙ made-push done line));
      few = omega (arith, kept.few, parts.1);
      refused = omega (arith, kept.refused, ap (λ (m : SiteSummary). m.refused) kept.made, with-refused (made_by done) comes, ap (λ (m : SiteSummary). m.refused) made);
      level = c.make_line.ensures.level;
      own = did.same.table ∙ c.requires.own;
      knows = added.2.knows;
    }

pub returns-clause-ended : goal.returns-clause-ended
returns-clause-ended g c =
    let all = site_lines c.args.number in
    let k = c.loop-line.lines in
    let kept = c.loop-line.invariant in
    let rest : c.loop-line.rest.now ≡ [] = no-line c.loop-line.rest.now c.first_line.result _ c.first_line.ensures c.in_default-first_line.is in
    let none : lines c.loop-line.rest.now ≡ [] = ap lines rest ∙ lines-empty in
    let counted : k ≡ length all = omega (arith, kept.counted, ap length none) in
    let done : take k all ≡ all = sym (append-nil (take k all)) ∙ (ap (λ l. take k all ++ l) (sym none) ∙ kept.whole) in
    let summary : c.loop-line.summary ≡ summary_of (site_made c.args.number) = kept.made ∙ ap (λ (ls : List (List ℕ)). summary_of (made_by ls)) done in
    let version : c.loop-line.editor.version ≡ length (site_made c.args.number).past.journal =
    kept.knows.version ∙ ap (λ (p : Past). length p.journal) (kept.did.past ∙ (sym (made-past (take k all)) ∙ ap (λ (ls : List (List ℕ)). (made_by ls).past) done)) in
    let row : c.as_slice.result.now ≡ site_row c.args.number = c.as_slice.ensures.value ∙ (c.in-Ok-row.ensures ∙ (λ i. row_of_summary c.args.number (version i) (summary i))) in
    let So = λ (s : Status). SiteEnded c.args.number s k (λ done. HasEnded s done c.args.editor.now.seat c.loop-line.editor.seat) (g.K.Sink.taken c.args.out.now) (g.K.Sink.taken c.put_all.new.sink) in
    elim c.match-put_all.branch [
      | in-Ok-put_all w ↦
          subst So (sym (w.status-is ∙ w.status_at_end-status.ensures)) (record {
            writes = ended c.args.number k c.loop-line.summary.refused _ _ counted (ap (λ (m : SiteSummary). m.refused) summary) (subst (Appends _ _) row w.in-Ok-put_all.ensures.whole) _ refl;
            goes = way-at-end _ _ _ _ kept.did;
          })
      | in-Err w ↦
          subst So (sym w.status-is) (record {
            writes = broken_off c.args.number k _ _ _ counted row w.in-Err.ensures.part;
            goes = record { same = kept.did.same; way = kept.did.way };
          })
    ]

pub returns-in_default-clause-ended : goal.returns-in_default-clause-ended
returns-in_default-clause-ended g c =
    let did = did-at-start c.args.editor.now c.requires.nothing c.requires.knows in
    unmade c.args.number 0 c.args.editor.now.seat c.args.editor.now.seat (g.K.Sink.taken c.args.out.now) (omega arith) (record { same = did.same; way = inl did.way }) c.without_memory.result.status c.without_memory.result.lines
    c.without_memory.ensures.status c.without_memory.ensures.lines

pub returns-in_default-make_line-clause-ended : goal.returns-in_default-make_line-clause-ended
returns-in_default-make_line-clause-ended g c =
    let k = c.loop-line.lines in
    let kept = c.loop-line.invariant in
    let parts : IsFirstLine c.loop-line.rest.now (Some (c.in-Some.line.now, c.in-Some.after.now)) = rw c.in-Some.is at c.first_line.ensures in
    let next = next-line (site_lines c.args.number) k c.loop-line.rest.now c.in-Some.line.now c.in-Some.after.now parts kept.whole kept.counted in
    let ended = failed-way c.args.editor.now.seat c.loop-line.editor c.make_line.new.editor.seat (take k (site_lines c.args.number)) c.in-Some.line.now kept.did c.in_default-make_line.ensures.adds in
    unmade c.args.number (k + 1) c.args.editor.now.seat c.make_line.new.editor.seat (g.K.Sink.taken c.args.out.now) (omega (arith, next.counted))
    (subst (λ (l : List (List ℕ)). HasEnded status.NoMemory l c.args.editor.now.seat c.make_line.new.editor.seat) (sym next.step) ended)
    c.without_memory-in_default-make_line.result.status c.without_memory-in_default-make_line.result.lines c.without_memory-in_default-make_line.ensures.status c.without_memory-in_default-make_line.ensures.lines

pub returns-in_default-row-clause-ended : goal.returns-in_default-row-clause-ended
returns-in_default-row-clause-ended g c =
    let kept = c.loop-line.invariant in
    unmade c.args.number c.loop-line.lines c.args.editor.now.seat c.loop-line.editor.seat (g.K.Sink.taken c.args.out.now) (omega (arith, kept.counted)) (record { same = kept.did.same; way = inl kept.did.way })
    c.without_memory-in_default-row.result.status c.without_memory-in_default-row.result.lines c.without_memory-in_default-row.ensures.status c.without_memory-in_default-row.ensures.lines
