-- Part of the public promise: the script language, what is answered to `load`: the words of the
-- last source that assembled are loaded by the keyed-in loader.
use Rattle.std.specs.Prelude.{if◌then◌else◌, is_some, unwrap_or, []}
use Rattle.std.specs.Option.{option_map_or}
use Rattle.lgp_assembler.specs.Image.{image_of}
use Rattle.lgp_loader.specs.BlockLoading.{longest_load}
use Rattle.lgp_loader.specs.Loading.{TapeLoad, loaded, loading_stopped}
use Rattle.lgp_script.specs.LabState.{LabState}
use Rattle.lgp_script.specs.Reply.{Replied, leaving, refusing}
use Rattle.lgp_script.specs.declared.refusal.Refusal.TheVariants as refusals
use Rattle.lgp_script.specs.declared.reply.Reply.TheVariants as replies

-- how many orders the loader performed; where loading meets the clock's end, the machine is
-- there, else as loading leaves it, and no step is kept
abbrev pub replied_to_tape_load : LabState → TapeLoad → Replied
replied_to_tape_load lab load =
    let d = lab.debugger in
    let stopped = loading_stopped d.state load in
    leaving
    (if is_some stopped then replies.Refused refusals.ClockEnd else replies.Loaded load.orders)
    lab (record d { state = unwrap_or stopped (loaded d.state load); steps = [] })

unfoldable pub replied_to_load : LabState → Replied
replied_to_load lab =
    option_map_or (λ source. replied_to_tape_load lab (longest_load (image_of source)))
    lab.source (refusing refusals.NoImage lab)
