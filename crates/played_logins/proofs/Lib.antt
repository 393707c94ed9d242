mod Going
mod PlayedLogins
mod Response
