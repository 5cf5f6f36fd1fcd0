use Rattle.lgp_desk.proofs.SessionLaws.{session_text_is}
use Rattle.lgp_desk.proofs.laws.what_files_hold_is_what_is_told.Goals as goal

pub returns-clause-written : goal.returns-clause-written
returns-clause-written c = λ calls before after manner names text refused w₀ w it have shut. session_text_is calls before after manner names text refused w₀ w it have shut
