-- The result of asking as one number, lowest byte first, and the result that a number holds. Assumes nothing.
use Rattle.std.specs.Prelude.{ℕ, ◌+◌, ◌*◌, ◌/◌, ◌%◌, ◌^◌}
use Rattle.asking.specs.Asking.{Outcome}

-- verdict, refusal number, place in two bytes, low first, height, reason, disequation number, and a byte 0
abbrev pub packed : Outcome → ℕ
packed o = o.verdict + 2 ^ 8 * o.refusal + 2 ^ 16 * o.place + 2 ^ 32 * o.height + 2 ^ 40 * o.reason + 2 ^ 48 * o.number

-- each field, read from its bytes
unfoldable pub unpacked : ℕ → Outcome
unpacked n = record {
  verdict = n % 2 ^ 8;
  refusal = n / 2 ^ 8 % 2 ^ 8;
  place = n / 2 ^ 16 % 2 ^ 16;
  height = n / 2 ^ 32 % 2 ^ 8;
  reason = n / 2 ^ 40 % 2 ^ 8;
  number = n / 2 ^ 48 % 2 ^ 8;
}
