use Rattle.std.proofs.Common.{◌≡◌, ◌-◌}
use Rattle.pgv_value.specs.Several.{several}
use Rattle.pgv_value.proofs.Several.{with_front}
use Rattle.pgv_message.specs.CopyFormats.{format_front}
use Rattle.pgv_message.proofs.copy_response.formats_in_front.Given as goal

-- what was read and what is left to read are the formats
abbrev pub invariant-loop : goal.invariant-loop
invariant-loop l = with_front l.formats.items (several format_front (l.count - l.counter) l.rest).answer ≡ (several format_front l.count l.bytes).answer
