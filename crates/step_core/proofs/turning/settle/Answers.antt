use Rattle.std.proofs.Common.{◌∙◌, sym}
use Rattle.step_core.proofs.Turned.{asks-begin, asks-commit, asks-install, settles-reply, settles-begin, settles-commit, settles-install}
use Rattle.step_core.proofs.turning.settle.Goals as goal

pub take_begin-requires : goal.take_begin-requires
take_begin-requires c = asks-begin c.args.state.now c.requires.0 c.requires.1 c.args.conn.now.conn (sym c.in-Begin.is ∙ c.requires.2) c.requires.3

pub take_commit-requires : goal.take_commit-requires
take_commit-requires c = asks-commit c.args.state.now c.requires.0 c.requires.1 c.args.conn.now.conn (sym c.in-Commit.is ∙ c.requires.2) c.requires.3

pub take_install-requires : goal.take_install-requires
take_install-requires c = asks-install c.args.state.now c.requires.0 c.requires.1 c.args.conn.now.conn c.in-Install.table c.in-Install.column (sym c.in-Install.is ∙ c.requires.2) c.requires.3

pub returns-in-Reply : goal.returns-in-Reply
returns-in-Reply c = settles-reply c.args.session c.args.served c.args.conn.now c.args.state.now c.in-Reply.receipt c.in-Reply.is

pub returns-in_ok-take_begin-in-Begin : goal.returns-in_ok-take_begin-in-Begin
returns-in_ok-take_begin-in-Begin c =
    settles-begin c.args.session c.args.served c.args.conn.now c.take_begin.new.conn c.args.state.now c.take_begin.new.state c.in_ok-take_begin-in-Begin.field-0 c.in-Begin.is
    (asks-begin c.args.state.now c.requires.0 c.requires.1 c.args.conn.now.conn (sym c.in-Begin.is ∙ c.requires.2) c.requires.3) c.in_ok-take_begin-in-Begin.ensures

pub returns-in_ok-take_commit-in-Commit : goal.returns-in_ok-take_commit-in-Commit
returns-in_ok-take_commit-in-Commit c =
    let asked = asks-commit c.args.state.now c.requires.0 c.requires.1 c.args.conn.now.conn (sym c.in-Commit.is ∙ c.requires.2) c.requires.3 in
    settles-commit c.args.session c.args.served c.args.conn.now c.take_commit.new.conn c.args.state.now c.take_commit.new.state c.in_ok-take_commit-in-Commit.field-0 asked.0 c.in-Commit.is
    asked.1 (c.in_ok-take_commit-in-Commit.ensures asked.0 asked.1)

pub returns-in_ok-take_install-in-Install : goal.returns-in_ok-take_install-in-Install
returns-in_ok-take_install-in-Install c =
    let asked = asks-install c.args.state.now c.requires.0 c.requires.1 c.args.conn.now.conn c.in-Install.table c.in-Install.column (sym c.in-Install.is ∙ c.requires.2) c.requires.3 in
    settles-install c.args.session c.args.served c.args.conn.now c.take_install.new.conn c.args.state.now c.take_install.new.state c.in_ok-take_install-in-Install.field-0 asked.0
    c.in-Install.table c.in-Install.column c.in-Install.is asked.1 (c.in_ok-take_install-in-Install.ensures asked.0 asked.1)
