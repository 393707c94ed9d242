pub mod Stood
pub mod Caused
pub mod Responses
pub mod TokenResponses
pub mod InfoResponses
pub mod LogoutRequests
pub mod Answers
pub mod FullTables
pub mod Refusals
pub mod Coming
pub mod Leading
pub mod Told
pub mod RefusalsCome
pub mod Sample
pub mod FirstVisit
pub mod FrontLogin
pub mod EachRefusal
pub mod RowSamples
pub mod Fetching
mod FetchSamples
pub mod LoggedOut
mod Overtaken
mod ReplySamples
pub mod Legality
mod MailLogin
mod CauseSamples
mod FullSamples
pub mod KeptNames
pub mod Drawn
pub mod Sending
pub mod Exchanges
pub mod Entering
pub mod Sessions
pub mod Accepted
pub mod NamedSids
pub mod VisitEnds
pub mod VisitsLive
pub mod TokensOnce
pub mod FewDeads
mod EndSamples
pub mod Hashes
pub mod Counting
pub mod LoginsOnce
mod NoCause
pub mod ObjectsApart
