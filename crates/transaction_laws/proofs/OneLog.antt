-- What client and connection say to each other leaves no choice.
use Rattle.std.proofs.Common.{◌≡◌, List, [], ◌∷◌, length, Option, Some, None, refl, ap, ap₂, ◌∙◌, sym, subst, arith}
use Rattle.walk_proto.specs.declared.messages.Exchange.{Exchange}
use Rattle.walk_proto.specs.declared.messages.Reply.{Reply}
use Rattle.walk_proto.specs.declared.messages.Request.{Request}
use Rattle.proxy.specs.Client.{Setting, Client, wants, hears}
use Rattle.proxy.specs.Talk.{Talk}
use Rattle.server_conn.specs.Connections.{Conn, Served, replies, wants_begin, wants_commit, wants_install}
use Rattle.server_conn.specs.Serving.{serve}
use Rattle.server_conn.specs.Logs.{Answers}
use Rattle.transaction_laws.specs.Walks.{exchanged}

-- the one that is there, or another
one_or : {A : Type 0} → A → Option A → A
one_or other None = other
one_or other (Some x) = x

said_or : Reply → Served → Reply
said_or other (replies r) = r
said_or other wants_begin = other
said_or other wants_commit = other
said_or other (wants_install t column) = other

pub logs_one : (s : Setting) (c : Client) (k : Conn) (one other : List Exchange) → Talk s c one → Answers k one → Talk s c other → Answers k other → length one ≡ length other → one ≡ other
unfolding Talk Answers exchanged one_or said_or
logs_one s c k [] [] talk answers talks answer e = refl
logs_one s c k [] (y ∷ other) talk answers talks answer e = absurd (omega (arith, e))
logs_one s c k (x ∷ one) [] talk answers talks answer e = absurd (omega (arith, e))
logs_one s c k (x ∷ one) (y ∷ other) talk answers talks answer e =
    let request : x.request ≡ y.request = ap (one_or x.request) (sym talk.0 ∙ talks.0) in
    let reply : x.reply ≡ y.reply = ap (said_or x.reply) (sym answers.0 ∙ ap (λ (r : Request). (serve r k).served) request ∙ answer.0) in
    let rest : one ≡ other =
    logs_one s (hears s c y.reply) (serve y.request k).conn one other (subst (λ (r : Reply). Talk s (hears s c r) one) reply talk.1) (subst (λ (r : Request). Answers (serve r k).conn one) request answers.1) talks.1 answer.1 (omega (arith, e)) in
    let first : x ≡ y = ap₂ exchanged request reply in
    ap₂ ◌∷◌ first rest
