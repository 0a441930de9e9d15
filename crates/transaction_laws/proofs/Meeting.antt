-- Meetings exchange by exchange, and one after the other.
use Rattle.std.proofs.Common.{◌≡◌, true, List, [], ◌∷◌, ◌++◌, Some, refl, ap, ◌∙◌, sym, subst}
use Rattle.walk_proto.specs.declared.messages.Exchange.{Exchange}
use Rattle.proxy.specs.Allowed.{allowed}
use Rattle.proxy.specs.Client.{Setting, Client, wants, hears}
use Rattle.proxy.specs.Talk.{Talk, AllAllowed, client_after}
use Rattle.server_conn.specs.Connections.{Conn, replies}
use Rattle.server_conn.specs.Serving.{serve}
use Rattle.server_conn.specs.Logs.{Answers, conn_after}
use Rattle.transaction_laws.specs.Meetings.{Meets}

pub meets_nothing : (s : Setting) (c : Client) (k : Conn) → Meets s c k [] c k
unfolding Talk AllAllowed client_after Answers conn_after
meets_nothing s c k = record { talk = tt; allows = tt; answers = tt; client_is = refl; conn_is = refl }

-- one exchange, before others
pub meets_one : (s : Setting) (c : Client) (k : Conn) (e : Exchange) (log : List Exchange) (client : Client) (conn : Conn)
    → wants s c ≡ Some e.request → allowed c e.reply ≡ true → (serve e.request k).served ≡ replies e.reply
    → Meets s (hears s c e.reply) (serve e.request k).conn log client conn → Meets s c k (e ∷ log) client conn
unfolding Talk AllAllowed client_after Answers conn_after
meets_one s c k e log client conn wanted allows answered rest = record {
  talk = (wanted, rest.talk);
  allows = (allows, rest.allows);
  answers = (answered, rest.answers);
  client_is = rest.client_is;
  conn_is = rest.conn_is;
}

talk-append : (s : Setting) (c : Client) (log more : List Exchange) → Talk s c log → Talk s (client_after s c log) more → Talk s c (log ++ more)
unfolding Talk client_after
talk-append s c [] more talk rest = rest
talk-append s c (e ∷ log) more talk rest = (talk.0, talk-append s (hears s c e.reply) log more talk.1 rest)

allows-append : (s : Setting) (c : Client) (log more : List Exchange) → AllAllowed s c log → AllAllowed s (client_after s c log) more → AllAllowed s c (log ++ more)
unfolding AllAllowed client_after
allows-append s c [] more allows rest = rest
allows-append s c (e ∷ log) more allows rest = (allows.0, allows-append s (hears s c e.reply) log more allows.1 rest)

client-append : (s : Setting) (c : Client) (log more : List Exchange) → client_after s c (log ++ more) ≡ client_after s (client_after s c log) more
unfolding client_after
client-append s c [] more = refl
client-append s c (e ∷ log) more = client-append s (hears s c e.reply) log more

answers-append : (k : Conn) (log more : List Exchange) → Answers k log → Answers (conn_after k log) more → Answers k (log ++ more)
unfolding Answers conn_after
answers-append k [] more answers rest = rest
answers-append k (e ∷ log) more answers rest = (answers.0, answers-append (serve e.request k).conn log more answers.1 rest)

conn-append : (k : Conn) (log more : List Exchange) → conn_after k (log ++ more) ≡ conn_after (conn_after k log) more
unfolding conn_after
conn-append k [] more = refl
conn-append k (e ∷ log) more = conn-append (serve e.request k).conn log more

-- one meeting, and then another from where it ended
pub meets_then : (s : Setting) (c d client : Client) (k l conn : Conn) (log more : List Exchange) → Meets s c k log d l → Meets s d l more client conn → Meets s c k (log ++ more) client conn
meets_then s c d client k l conn log more first rest =
    let here : client_after s c log ≡ d = first.client_is in
    let there : conn_after k log ≡ l = first.conn_is in
    record {
      talk = talk-append s c log more first.talk (subst (λ (x : Client). Talk s x more) (sym here) rest.talk);
      allows = allows-append s c log more first.allows (subst (λ (x : Client). AllAllowed s x more) (sym here) rest.allows);
      answers = answers-append k log more first.answers (subst (λ (x : Conn). Answers x more) (sym there) rest.answers);
      client_is = client-append s c log more ∙ ap (λ (x : Client). client_after s x more) here ∙ rest.client_is;
      conn_is = conn-append k log more ∙ ap (λ (x : Conn). conn_after x more) there ∙ rest.conn_is;
    }
