use Rattle.std.proofs.Common.{◌≡◌, length, take, drop}
use Rattle.scene_parts.specs.Answers.{each}
use Rattle.scene_parts.specs.Checking.{power_within}
use Rattle.scene_parts.proofs.AnswerLemmas.{after}
use Rattle.scene_parts.proofs.checks.powers.powers.Given as goal

abbrev pub invariant-loop-band : goal.invariant-loop-band
invariant-loop-band l = record {
  so_far : each (power_within l.low l.high) l.lw ≡ after (power_within l.low l.high) (take l.band l.powers) (drop l.band l.lw);
  bands : length l.powers ≡ 8;
}
