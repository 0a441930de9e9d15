-- The messages of a transaction are ones that some bytes give.
use Rattle.std.specs.Prelude.{◌≡◌, true, List, []}
use Rattle.mope_base.specs.Lists.{Each}
use Rattle.table_model.specs.Stores.{Store}
use Rattle.value_cipher.specs.Cipher.{Cell}
use Rattle.versions.specs.Databases.{Database}
use Rattle.walk_proto.specs.Rules.{IsRequest, IsReply}
use Rattle.walk_proto.specs.declared.messages.Exchange.{Exchange}
use Rattle.walk_proto.specs.declared.messages.Reply.{Reply}
use Rattle.workload.specs.declared.script.Act.{Act}
use Rattle.workload.specs.declared.script.Decl.{Decl}
use Rattle.workload.specs.Validity.{IsValidAct}
use Rattle.proxy.specs.Allowed.{allowed}
use Rattle.proxy.specs.Client.{Setting, Client}
use Rattle.transaction_laws.specs.Transactions.{tried_on, acts_log, MayRun}

-- some bytes give both messages of an exchange
pub record IsReadable (e : Exchange) : Type 0 where
  pub request : IsRequest e.request
  pub reply : IsReply e.reply

-- every reply that a client allows is one that some bytes give: those to a begin and an end too
abbrev pub AllowedIsReadable : Type 0
AllowedIsReadable = (c : Client) (r : Reply) → allowed c r ≡ true → IsReply r

-- so are the messages of the statements of a valid transaction, on a version of valid tables
abbrev pub MessagesAreReadable : Type 0
MessagesAreReadable = (s : Setting) (tables : List Decl) (acts : List Act) (c : Client) (d : Database) (stores : List (Store Cell)) → MayRun s tables d stores → Each (IsValidAct tables) acts → c.answers ≡ [] → Each IsReadable (acts_log s d.same_time acts (tried_on stores c.seals))
