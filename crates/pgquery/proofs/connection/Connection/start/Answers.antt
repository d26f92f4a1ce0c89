use Rattle.std.proofs.Common.{rules, ◌≡◌, List, [], ◌∷◌, map, Ok}
use Rattle.pgv_message.specs.Startup.{startup}
use Rattle.pgv_message.specs.declared.startup.PgSetting.{PgSetting}
use Rattle.pgquery.specs.Talks.{settings_of, shown_setting}
use Rattle.pgquery.proofs.Talking.{after_sending, on_ok}
use Rattle.pgquery.proofs.connection.Connection.start.Goals as goal

pub returns : goal.returns
returns g c =
    let sent = c.write_startup.new.out.items in
    let settings : List PgSetting = c.setting.result ∷ c.setting-2.result ∷ c.setting-3.result ∷ c.setting-4.result ∷ [] in
    let named : map shown_setting settings ≡ settings_of c.args.user.now c.args.database.now = search rules in
    let is_sent : startup settings ≡ Ok sent = search rules in
    on_ok c.admit.result
    (λ k. (
      settings,
      sent,
      k.0,
      named,
      is_sent,
      after_sending g.R.Read.remaining g.W.Write.contents c.args.self.now c.send.new.self c.admit.new.self sent k.0 (rw c.as_slice.ensures.value at c.in_ok-send.ensures) k.1,
    )) c.admit.ensures
