use Rattle.ide_commands.proofs.calls.load.Goals as goal

pub returns : goal.returns
returns g c = (
  c.in_ok-ticket.ticket.number,
  record {
    program = c.in_ok-program.program;
    parsed = c.in_ok-program.ensures.parsed;
    loaded = c.load.new.self;
    loads = c.in_ok-ticket.ensures.loads;
    stores = c.in_ok-store_all.ensures.stored;
  },
  c.in_ok-append_stored.ensures,
)
