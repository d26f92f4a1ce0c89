-- The bytes that name a server's messages in the extended query (PostgreSQL: "Message Formats").
use Rattle.std.specs.Prelude.{ℕ, ◌==◌, Option, Some, None, if◌then◌else◌}
use Rattle.pgv_characters.specs.Characters.{digit_one, digit_two, digit_three, upper_a, upper_c, upper_d, upper_e, upper_g, upper_h, upper_i, upper_n, upper_s, upper_t, upper_z, lower_c, lower_d, lower_n, lower_s, lower_t}
use Rattle.pgv_message.specs.declared.tag.PgTag.{PgTag}
use Rattle.pgv_message.specs.declared.tag.PgTag.TheVariants.{ParseComplete, BindComplete, CloseComplete, ParameterDescription, RowDescription, NoData, DataRow, CommandComplete, EmptyQueryResponse, PortalSuspended, CopyOutResponse, CopyInResponse, CopyData, CopyDone, ReadyForQuery, ErrorResponse, NoticeResponse, ParameterStatus, NotificationResponse}

abbrev pub tag_of : ℕ → Option PgTag
tag_of byte =
    if byte == digit_one then Some ParseComplete else
    if byte == digit_two then Some BindComplete else
    if byte == digit_three then Some CloseComplete else
    if byte == lower_t then Some ParameterDescription else
    if byte == upper_t then Some RowDescription else
    if byte == lower_n then Some NoData else
    if byte == upper_d then Some DataRow else
    if byte == upper_c then Some CommandComplete else
    if byte == upper_i then Some EmptyQueryResponse else
    if byte == lower_s then Some PortalSuspended else
    if byte == upper_h then Some CopyOutResponse else
    if byte == upper_g then Some CopyInResponse else
    if byte == lower_d then Some CopyData else
    if byte == lower_c then Some CopyDone else
    if byte == upper_z then Some ReadyForQuery else
    if byte == upper_e then Some ErrorResponse else
    if byte == upper_n then Some NoticeResponse else
    if byte == upper_s then Some ParameterStatus else
    if byte == upper_a then Some NotificationResponse else
    None
