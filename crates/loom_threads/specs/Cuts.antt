-- The machine of a design.
use Rattle.draft_model.specs.declared.design.Design.{Design}
use Rattle.loom_machine.specs.Machines.{MachineValue}

-- the machine of a design lifts by the design's tie and casting
abbrev pub machine_of : Design → MachineValue
machine_of design = record { tie = design.tie; casting = design.casting }
