mod Ends
mod More
