-- The edges of a step, one after the other: what each does to the configuration.
use Rattle.std.specs.Prelude.{List, map, ℤ, get_or, set}
use Rattle.lists.specs.Lists.{concat}
use Rattle.clocks.specs.Clocks.{reset}
use Rattle.updates.specs.Update.{assign}
use Rattle.steps.specs.Moves.{clocks_after}
use Rattle.network_records.specs.Network.{Edge, Network, owner_of}
use Rattle.network_moves.specs.Machine.{overwrite, move, write}
use Rattle.network_moves.specs.declared.configuration.Configuration.{Configuration}

-- one more edge; its assignments read the values `old`
abbrev pub taken : Network → Edge → List ℤ → Configuration → Configuration
taken n e old c = record {
  locations = set c.locations (owner_of n e) e.target;
  flags = set c.flags (owner_of n e) (overwrite (get_or c.flags (owner_of n e) 0) e.written e.values);
  variables = assign old e.label.body.updates c.variables;
  clocks = reset e.label.resets c.clocks;
}

-- all that are left
abbrev pub taken_all : Network → List Edge → List ℤ → Configuration → Configuration
taken_all n es old c = record {
  locations = move n es c.locations;
  flags = write n es c.flags;
  variables = assign old (concat (λ l. l.body.updates) (map (λ e. e.label) es)) c.variables;
  clocks = clocks_after (map (λ e. e.label) es) c.clocks;
}
