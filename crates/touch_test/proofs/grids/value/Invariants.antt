-- What is read so far, and what the digits behind add, is what all digits say.
use Rattle.std.proofs.Common.{◌≡◌, ◌≤◌, drop}
use Rattle.std.specs.Str.{all_ascii_digits}
use Rattle.touch_test.specs.inner.Numbers.{read_on}
use Rattle.touch_test.proofs.grids.value.Given as goal

abbrev pub invariant-loop-byte : goal.invariant-loop-byte
invariant-loop-byte l = record {
  said : read_on l.n (drop l.byte-index l.text) ≡ read_on 0 l.text;
  digits : all_ascii_digits (drop l.byte-index l.text) ≡ all_ascii_digits l.text;
  none : l.byte-index ≤ 0 → l.n ≤ 0;
  one : l.byte-index ≤ 1 → l.n ≤ 9;
  two : l.byte-index ≤ 2 → l.n ≤ 99;
  three : l.byte-index ≤ 3 → l.n ≤ 999;
}
