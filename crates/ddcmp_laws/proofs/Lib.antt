pub mod Early
pub mod SessionTimingLaws
pub mod StateTableLaws
pub mod StationLaws
pub mod StartingLaws
pub mod BytesArrive
pub mod BridgeLaws
pub mod MailLaws
pub mod ShownLines
pub mod LineInputs
pub mod LinesArrive
pub mod CameLaws
pub mod NumberLaws
pub mod StartLaws
pub mod LineLaws
pub mod CallLaws
pub mod CountLaws
pub mod PassedLaws
pub mod Extended
pub mod FaithfulLaws
pub mod DamageLaws
pub mod RecoveredLaws
pub mod PositionLaws
pub mod ClearSteps
pub mod ClearReads
pub mod ClearLaws
pub mod ClearRuns
pub mod CarriedLaws
mod Prices
mod TakenWritten
mod Ways
mod Settling
mod Resting
mod Flights
mod Traffic
mod Learning
mod Starting
mod Repeating
mod Hearing
mod Acting
mod Staying
mod Delivering
mod Rounding
pub mod InStep
pub mod Waiting
mod Sweeping
mod Timely
pub mod SweepRounds
pub mod Stations
pub mod Calling
pub mod PairCallLaws
pub mod Seen
pub mod Turning
pub mod Drives
pub mod Delivery
pub mod Streaming
pub mod InTurn
pub mod Serving
pub mod Acknowledged
mod ByUser
mod Late
pub mod LinkCalls
pub mod TwoLinks
pub mod Sleeping
pub mod LinkRules
pub mod LinkRecovery
pub mod TurnTies
pub mod DrivenRecovery
pub mod TurnSweeps
pub mod TurnRooms
pub mod TurnRounds
pub mod TurnsGoOn
pub mod StationRuns
pub mod LinkRestarts
pub mod Acted
pub mod Anew
mod AnewPipes
pub mod ConnectionLaws
pub mod EachLine
pub mod AllLines
pub mod AllLinesWritten
pub mod EndLaws
pub mod FrameSteps
pub mod FramesAtA
pub mod FramesAtB
pub mod FramesTogether
pub mod Finished
pub mod Given
pub mod Histories
pub mod Holding
mod Inboxes
mod Queues
pub mod Inputs
pub mod LastAtA
pub mod LastAtB
pub mod LastCalls
pub mod LastConnection
pub mod LastRuns
pub mod LastSteps
pub mod Limits
pub mod LinkSteps
pub mod Losing
pub mod LosingAnew
pub mod LoopLaws
pub mod NoisyReads
pub mod MergeA
pub mod MergeB
pub mod MergeRuns
pub mod MergeSteps
pub mod OneConnection
pub mod Outcomes
pub mod OverLines
pub mod Pipes
pub mod Reading
pub mod Records
pub mod Ready
pub mod RunLaws
pub mod SessionSleeping
pub mod SessionRecovering
pub mod SessionWaking
pub mod SessionStory
pub mod SessionStreams
pub mod Texts
pub mod Unconnected
pub mod Writing
