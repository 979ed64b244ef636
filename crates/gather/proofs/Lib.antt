-- numbers and links alone: renumbering; a link contracted; links followed, and that n of them among n numbers end or come round
pub mod Numbers
pub mod Contract
pub mod Steps
-- machines: which section each may take in after a join; rings, and that links end; a join contracts a link; where joins end
pub mod Join
pub mod Rings
pub mod JoinLinks
pub mod Ends
-- the results
pub mod Theorems
-- for code that gathers: following links; numbers past the sections, and how much code there is
pub mod Follow
pub mod Past
-- machines gathered, computed
pub mod Examples
