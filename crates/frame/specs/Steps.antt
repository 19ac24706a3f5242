-- The steps of the program.
use Rattle.std.specs.Prelude.{ℕ, true, false, List, [], ◌∷◌, ◌++◌, map}
use Rattle.std.specs.List.{flat_map}
use Rattle.slave.specs.declared.channels.Channel.TheVariants.{Write, Read}
use Rattle.fabric.specs.declared.types.Act.TheVariants.{Grant, Put, Take}
use Rattle.workload.specs.declared.step.Step.{Step}
use Rattle.workload.specs.declared.step.Step.TheVariants.{Act as One, Puts, Takes}
use Rattle.workload.specs.Moves.{row_request}
use Rattle.frame.specs.declared.rows.Row.{Row}
use Rattle.frame.specs.declared.rows.TheConstants.{BEATS}
use Rattle.frame.specs.Rows.{row_puts, row_at}

-- master 0 requests a burst of the frame, to write it
abbrev pub write_request : Row → Step
write_request r = One (row_request Write 0 r.id 4 r.start r.beats)

-- a master requests it, to read it
abbrev pub read_request : ℕ → ℕ → ℕ → Row → Step
read_request master id qos r = One (row_request Read master id qos r.start r.beats)

-- a burst is requested, granted and put
abbrev pub write_steps : Row → List Step
write_steps r = write_request r ∷ One (Grant Write) ∷ Puts (row_puts r) ∷ []

-- a burst is requested, master 1 is granted first and puts its one beat after three that are refused
abbrev pub overtaken_steps : Row → List Step
overtaken_steps r =
    write_request r ∷ One (Grant Write)
    ∷ One (Put 0 0 0 true) ∷ One (Put 1 0 0 false) ∷ One (Put 1 0 0xff true) ∷ One (Put 1 0x4444333300000000 0x30 true)
    ∷ One (Grant Write) ∷ Puts (row_puts r) ∷ []

-- masters 2 and 3 read a burst each
abbrev pub two_reads : Row → Row → List Step
two_reads low high = read_request 2 1 1 low ∷ read_request 3 2 9 high ∷ One (Grant Read) ∷ Takes BEATS ∷ One (Grant Read) ∷ Takes BEATS ∷ []

-- a requested burst is granted and read
abbrev pub read_steps : Row → List Step
read_steps r = One (Grant Read) ∷ Takes r.beats ∷ []

-- acts that are refused
abbrev pub refused_steps : List Step
refused_steps = One Take ∷ One (Grant Read) ∷ One (row_request Write 4 0 0 0 1) ∷ One (row_request Write 0 0 0 0xff8 2) ∷ []

-- master 2 reads bursts alone: it requests them all, then each is granted and read
abbrev pub alone_steps : List Row → List Step
alone_steps rows = map (read_request 2 1 1) rows ++ flat_map read_steps rows

-- all steps: master 1 waits with the lowest rank, master 0 brings the frame, and two masters read it back
abbrev pub frame_steps : List Step
frame_steps =
    One (row_request Write 1 7 0 0x904 1) ∷ []
    ++ flat_map write_steps (row_at 0 ∷ row_at 1 ∷ row_at 2 ∷ row_at 3 ∷ [])
    ++ overtaken_steps (row_at 4) ++ write_steps (row_at 5)
    ++ two_reads (row_at 0) (row_at 1)
    ++ alone_steps (row_at 2 ∷ row_at 3 ∷ row_at 4 ∷ row_at 5 ∷ [])
    ++ refused_steps
